-- Byte classes: which bytes are blanks, letters, digits, marks and signs. Assumes nothing.
use Rattle.std.specs.Prelude.{◌≡◌, ℕ, ◌≤◌, Bool, false, cond, ◌&&◌, ◌||◌, ◌⊎◌, List, [], ◌∷◌, codes, ◌==◌, nat_le}
use Rattle.token.specs.declared.class.Class.{Class}
use Rattle.token.specs.declared.class.Class.TheVariants as kind

-- one of the bytes of a list
abbrev pub Among : List ℕ → ℕ → Type 0
Among [] b = ⊥
Among (x ∷ xs) b = (b ≡ x) ⊎ Among xs b

-- class 1: tabulator, line feed, carriage return, space
abbrev pub blanks : List ℕ
blanks = 9 ∷ 10 ∷ 13 ∷ 32 ∷ []

abbrev pub Blank : ℕ → Type 0
Blank b = Among blanks b

-- class 2: A to Z, a to z
abbrev pub Letter : ℕ → Type 0
Letter b = ((65 ≤ b) × (b ≤ 90)) ⊎ ((97 ≤ b) × (b ≤ 122))

-- class 3: 0 to 9
abbrev pub Digit : ℕ → Type 0
Digit b = (48 ≤ b) × (b ≤ 57)

-- class 4
abbrev pub marks : List ℕ
marks = codes "-._"

abbrev pub Mark : ℕ → Type 0
Mark b = Among marks b

-- class 5
abbrev pub signs : List ℕ
signs = codes "\"()[]{}|;\\&*~+?^="

abbrev pub Sign : ℕ → Type 0
Sign b = Among signs b

-- a byte that can go on in a name
abbrev pub GoesOn : ℕ → Type 0
GoesOn b = Letter b ⊎ (Digit b ⊎ Mark b)

-- the numbers of the classes
abbrev pub class_number : Class → ℕ
class_number kind.Other = 0
class_number kind.Blank = 1
class_number kind.Letter = 2
class_number kind.Digit = 3
class_number kind.Mark = 4
class_number kind.Sign = 5

-- the class of a byte, by its number; class 0 has all others
pub record Classified (b c : ℕ) : Type 0 where
  pub blank : (c ≡ 1 → Blank b) × (Blank b → c ≡ 1)
  pub letter : (c ≡ 2 → Letter b) × (Letter b → c ≡ 2)
  pub digit : (c ≡ 3 → Digit b) × (Digit b → c ≡ 3)
  pub mark : (c ≡ 4 → Mark b) × (Mark b → c ≡ 4)
  pub sign : (c ≡ 5 → Sign b) × (Sign b → c ≡ 5)
  pub known : c ≤ 5

-- the same by tests
abbrev pub among : List ℕ → ℕ → Bool
among [] b = false
among (x ∷ xs) b = b == x || among xs b

-- a byte that lies between two others
abbrev pub within : ℕ → ℕ → ℕ → Bool
within low high b = nat_le low b && nat_le b high

-- the class of a byte, computed
unfoldable pub class : ℕ → ℕ
class b = cond (among blanks b) 1 (cond (within 65 90 b || within 97 122 b) 2 (cond (within 48 57 b) 3 (cond (among marks b) 4 (cond (among signs b) 5 0))))
