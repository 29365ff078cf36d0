-- What is promised of the grammar. Assumes nothing.
use Rattle.std.specs.Prelude.{◌≡◌, ℕ, ◌⊎◌, ◌↔◌, List, ◌∷◌, ◌++◌, map, Some, Ok, Err, Result}
use Rattle.sentence.specs.declared.sort.Sort.{Sort}
use Rattle.sentence.specs.Trees.{Sentence, spell_text, WellStatements}
use Rattle.sentence.specs.Texts.{Writes, Text, Begins, RefusedAt}
use Rattle.sentence.specs.Stars.{Sign, sign_sort, signs_text, ToldBy}
use Rattle.sentence.specs.Machine.{State, begun, runs, outcome}

-- one tree per spelling
abbrev pub OneTree : Type 0
OneTree = (ts : List Sort) (x y : Sentence) → Writes ts x → Writes ts y → x ≡ y

-- any sorts are a text, or they are refused at a place
abbrev pub TextOrRefused : Type 0
TextOrRefused = (ts : List Sort) → Text ts ⊎ ((k : ℕ) × RefusedAt ts k)

-- not both
abbrev pub NotBoth : Type 0
NotBoth = (ts : List Sort) (k : ℕ) → Text ts → RefusedAt ts k → ⊥

-- and at one place only
abbrev pub OnePlace : Type 0
OnePlace = (ts : List Sort) (j k : ℕ) → RefusedAt ts j → RefusedAt ts k → j ≡ k

-- the stars told apart are those of the text
abbrev pub SameSorts : Type 0
SameSorts = (x : Sentence) → map sign_sort (signs_text x) ≡ spell_text x

-- a star is the product if a name, `_`, `0`, `{}`, `(` or `[` follows, else the closure
abbrev pub StarRule : Type 0
StarRule = (x : Sentence) (before : List Sign) (s : Sign) (rest : List Sign) → WellStatements x.statements → signs_text x ≡ before ++ (s ∷ rest) → ToldBy s rest

-- the machine tells the sentence, or the place of the refusal
abbrev pub Tells : List Sort → Result Sentence ℕ → Type 0
Tells ts (Ok x) = Writes ts x
Tells ts (Err k) = RefusedAt ts k

abbrev pub MachineTells : Type 0
MachineTells = (ts : List Sort) (r : Result Sentence ℕ) → Tells ts r → outcome begun 0 ts ≡ r

abbrev pub MachineTold : Type 0
MachineTold = (ts : List Sort) → Tells ts (outcome begun 0 ts)

-- what the machine can take is what begins a text
abbrev pub MachineBegins : Type 0
MachineBegins = (ts : List Sort) → Begins ts ↔ ((c : State) × (runs begun ts ≡ Some c))
