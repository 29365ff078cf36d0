-- The record: which bytes spell which calls. Assumes nothing.
use Rattle.std.specs.Prelude.{◌≡◌, ℕ, ◌/◌, ◌%◌, ◌<◌, List, [], ◌∷◌, ◌++◌, length, slice_index}
use Rattle.bench.specs.declared.action.Action.{Action}
use Rattle.bench.specs.declared.action.Action.TheVariants.{Enter, Tie, Settle}

-- every item is a byte
abbrev pub Bytes : List ℕ → Type 0
Bytes bytes = (k : ℕ) → slice_index bytes k < 256

-- a number of 32 bits in four bytes, high byte first
abbrev pub word : ℕ → List ℕ
word v = v / 16777216 ∷ v / 65536 % 256 ∷ v / 256 % 256 ∷ v % 256 ∷ []

-- a field: its tag, the length of its content in two bytes, the content
abbrev pub field : ℕ → List ℕ → List ℕ
field tag content = tag ∷ length content / 256 ∷ length content % 256 ∷ content

-- tag 1 is an event, tag 2 a tie, tag 3 a settling
abbrev pub spell : Action → List ℕ
spell (Enter x) = field 1 (x.number ∷ x.kind ∷ x.thread ∷ x.step ∷ x.location ∷ word x.value)
spell (Tie r w) = field 2 (r ∷ w ∷ [])
spell (Settle n) = field 3 (n ∷ [])

-- tag 0 ends the record
abbrev pub end : List ℕ
end = field 0 []

-- the fields of calls, one after another
abbrev pub spelled : List Action → List ℕ
spelled [] = []
spelled (a ∷ more) = spell a ++ spelled more

-- a record of these calls: their fields, then the end, and no byte after it
abbrev pub Spells : List ℕ → List Action → Type 0
Spells bytes calls = bytes ≡ spelled calls ++ end
