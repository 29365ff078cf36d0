-- Limits: how many names are bound, how many checks there are, how many brackets are open together. Assumes nothing.
use Rattle.std.specs.Prelude.{◌≡◌, ℕ, ◌+◌, ◌-◌, ◌<◌, Bool, true, false, ◌&&◌, List, [], ◌∷◌, take, drop, Some, None, Option, nat_le}
use Rattle.sentence.specs.declared.sort.Sort.{Sort}
use Rattle.sentence.specs.declared.sort.Sort.TheVariants as sort
use Rattle.cat.specs.declared.class.Class.{Class}
use Rattle.cat.specs.declared.class.Class.TheVariants.{Name, Equals, Word, Opens, Closes, Other}
use Rattle.cat.specs.declared.class.Tally.{Tally}

-- what the limits count: names, the `=` behind each bound one, check words, brackets
abbrev pub class : Sort → Class
class sort.Name = Name
class sort.Title = Other
class sort.Let = Other
class sort.Rec = Other
class sort.And = Other
class sort.Acyclic = Word
class sort.Irreflexive = Word
class sort.Empty = Word
class sort.Flag = Other
class sort.As = Other
class sort.Universe = Other
class sort.NoPairs = Other
class sort.NoEvents = Other
class sort.Inverse = Other
class sort.Open = Opens
class sort.Close = Closes
class sort.OpenSquare = Opens
class sort.CloseSquare = Closes
class sort.Bar = Other
class sort.Semicolon = Other
class sort.Backslash = Other
class sort.Ampersand = Other
class sort.Star = Other
class sort.Tilde = Other
class sort.Plus = Other
class sort.Question = Other
class sort.Equals = Equals

-- the class of the first of some sorts
abbrev pub first_class : List Sort → Class
first_class [] = Other
first_class (s ∷ ts) = class s

-- one more of a class
abbrev pub counted : Tally → Class → Tally
counted t Name = t
counted t Equals = record { equals = t.equals + 1; words = t.words; opened = t.opened; closed = t.closed }
counted t Word = record { equals = t.equals; words = t.words + 1; opened = t.opened; closed = t.closed }
counted t Opens = record { equals = t.equals; words = t.words; opened = t.opened + 1; closed = t.closed }
counted t Closes = record { equals = t.equals; words = t.words; opened = t.opened; closed = t.closed + 1 }
counted t Other = t

-- how many of each some sorts have, on top of what is counted
unfoldable pub tally : Tally → List Sort → Tally
tally t [] = t
tally t (s ∷ ts) = tally (counted t (class s)) ts

-- nothing is counted yet
abbrev pub nothing_counted : Tally
nothing_counted = record { equals = 0; words = 0; opened = 0; closed = 0 }

-- the `=` of a bound name
abbrev pub is_equals : Class → Bool
is_equals Name = false
is_equals Equals = true
is_equals Word = false
is_equals Opens = false
is_equals Closes = false
is_equals Other = false

-- how many are counted in all
abbrev pub sum : Tally → ℕ
sum t = t.equals + t.words + t.opened + t.closed

-- whether one of this class, with the next behind it and so many before it, is past a limit: the 65th bound name, the 17th check word, a bracket that opens while 16 are open
abbrev pub past : Class → Class → Tally → Bool
past Name next t = is_equals next && nat_le 64 t.equals
past Equals next t = false
past Word next t = nat_le 16 t.words
past Opens next t = nat_le 16 (t.opened - t.closed)
past Closes next t = false
past Other next t = false

-- whether the sort at a place is past a limit
unfoldable pub over : List Sort → ℕ → Bool
over ts k = past (first_class (drop k ts)) (first_class (drop (k + 1) ts)) (tally nothing_counted (take k ts))

-- none is past a limit
abbrev pub WithinLimits : List Sort → Type 0
WithinLimits ts = (k : ℕ) → over ts k ≡ false

-- the first that is
pub record FirstOver (ts : List Sort) (k : ℕ) : Type 0 where
  pub here : over ts k ≡ true
  pub before : (j : ℕ) → j < k → over ts j ≡ false

-- what looking for one tells
abbrev pub Limited : List Sort → Option ℕ → Type 0
Limited ts None = WithinLimits ts
Limited ts (Some k) = FirstOver ts k
