-- Lexing: which blanks, comments and tokens a text is made of. Assumes nothing.
use Rattle.std.specs.Prelude.{◌≡◌, ℕ, ◌+◌, ◌≤◌, List, [], ◌∷◌, ◌++◌, length, codes, ◌≢◌, slice_index}
use Rattle.token.specs.Classes.{Among, Blank, Letter, Digit, Mark, Sign, GoesOn}
use Rattle.token.specs.Tokens.{Reserved, Word, name, title, key, sign, keyword, symbol, spelling}

-- a stretch of the text: a blank, a comment by what stands inside, a token
pub data Item : Type 0 where
  blank : ℕ → Item
  comment : List ℕ → Item
  token : Word → Item

-- the bytes of a stretch
abbrev pub spell : Item → List ℕ
spell (blank b) = b ∷ []
spell (comment inside) = codes "(*" ++ (inside ++ codes "*)")
spell (token w) = spelling w

-- every byte of a list
abbrev pub Every : (ℕ → Type 0) → List ℕ → Type 0
Every P [] = Unit {0}
Every P (b ∷ bytes) = P b × Every P bytes

-- a name: a letter, and behind it letters, digits and marks; no reserved word
pub record Named (bytes : List ℕ) : Type 0 where
  pub first : Letter (slice_index bytes 0)
  pub goes_on : Every GoesOn bytes
  pub free : (k : Reserved) → bytes ≢ keyword k

-- no `*)` before the one that ends the comment
abbrev pub Closes : List ℕ → Type 0
Closes inside = (before after : List ℕ) → inside ++ codes "*" ≡ before ++ (codes "*)" ++ after) → ⊥

-- the bytes of the token are of its sort: in a title there is no quote
abbrev pub Formed : Word → Type 0
Formed (name bytes) = Named bytes
Formed (title bytes) = Every (λ b. b ≢ 34) bytes
Formed (key k) = Unit {0}
Formed (sign s) = Unit {0}

-- no byte comes next with which a name would go on
abbrev pub Stops : List ℕ → Type 0
Stops [] = Unit {0}
Stops (b ∷ more) = GoesOn b → ⊥

-- the token ends where it does: a word takes all the bytes that it can, and where `(*` stands a comment begins
abbrev pub Apart : Word → List ℕ → Type 0
Apart (name bytes) more = Stops more
Apart (title bytes) more = Unit {0}
Apart (key k) more = Stops more
Apart (sign s) more = (rest : List ℕ) → symbol s ++ more ≡ codes "(*" ++ rest → ⊥

-- the stretch can stand before the bytes that follow it
abbrev pub Proper : Item → List ℕ → Type 0
Proper (blank b) more = Blank b
Proper (comment inside) more = Closes inside
Proper (token w) more = Formed w × Apart w more

-- the text begins with these stretches, taken from the left, and this rest follows
abbrev pub Reads : List ℕ → List Item → List ℕ → Type 0
Reads text [] rest = text ≡ rest
Reads text (i ∷ items) rest = (more : List ℕ) × (text ≡ spell i ++ more) × Proper i more × Reads more items rest

-- the bytes of stretches, one after another
abbrev pub spelled : List Item → List ℕ
spelled [] = []
spelled (i ∷ items) = spell i ++ spelled items

-- the tokens among stretches, each with its place; the first stretch stands at a place
abbrev pub tokens : ℕ → List Item → List (ℕ × Word)
tokens at [] = []
tokens at (blank b ∷ items) = tokens (at + length (spell (blank b))) items
tokens at (comment inside ∷ items) = tokens (at + length (spell (comment inside))) items
tokens at (token w ∷ items) = (at, w) ∷ tokens (at + length (spelling w)) items

-- the whole text is blanks, comments and tokens, and these are the tokens at their places
pub record Lexes (text : List ℕ) (found : List (ℕ × Word)) : Type 0 where
  pub items : List Item
  pub reads : Reads text items []
  pub are : found ≡ tokens 0 items

-- a byte stands here, and neither a blank nor a comment nor a token begins with it
pub record Stuck (rest : List ℕ) : Type 0 where
  pub some : rest ≡ [] → ⊥
  pub none : (i : Item) (more : List ℕ) → rest ≡ spell i ++ more → Proper i more → ⊥

-- the same in words: a byte that begins no token, or a comment or title that has no end
pub data Fruitless (b : ℕ) (more : List ℕ) : Type 0 where
  -- a byte of the class other
  other : (Blank b → ⊥) → (Letter b → ⊥) → (Digit b → ⊥) → (Mark b → ⊥) → (Sign b → ⊥) → Fruitless b more
  -- a digit from 1 to 9
  digit : 49 ≤ b → b ≤ 57 → Fruitless b more
  -- `-`, `.` or `}`
  lone : Among (codes "-.}") b → Fruitless b more
  -- a `{` that has no `}` right behind it
  brace : b ≡ 123 → ((rest : List ℕ) → more ≢ codes "}" ++ rest) → Fruitless b more
  -- a `^` that has no `-1` right behind it
  caret : b ≡ 94 → ((rest : List ℕ) → more ≢ codes "-1" ++ rest) → Fruitless b more
  -- a `(*` with no `*)` behind it
  unclosed : b ≡ 40 → (rest : List ℕ) → more ≡ codes "*" ++ rest → ((before after : List ℕ) → rest ≡ before ++ (codes "*)" ++ after) → ⊥) → Fruitless b more
  -- a quote with no quote behind it
  unquoted : b ≡ 34 → ((before after : List ℕ) → more ≢ before ++ (codes "\"" ++ after)) → Fruitless b more

abbrev pub StuckInWords : Type 0
StuckInWords = (b : ℕ) (more : List ℕ) → (Stuck (b ∷ more) → Fruitless b more) × (Fruitless b more → Stuck (b ∷ more))

-- the text is blanks, comments and tokens up to the place, and none begins there
pub record Strays (text : List ℕ) (place : ℕ) : Type 0 where
  pub items : List Item
  pub rest : List ℕ
  pub reads : Reads text items rest
  pub stuck : Stuck rest
  pub here : place ≡ length (spelled items)
