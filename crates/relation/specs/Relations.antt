-- Relations between events, and what is made of them. Assumes nothing.
use Rattle.std.specs.Prelude.{◌≡◌, ℕ, ◌⊎◌, ◌↔◌}
use Rattle.relation.specs.Sets.{Events}

-- a relation between events, which are numbers
abbrev pub Pairs : Type 1
Pairs = ℕ → ℕ → Type 0

-- the relation with no pair
abbrev pub Never : Pairs
Never a b = ⊥

-- the pairs of either relation
abbrev pub Union : Pairs → Pairs → Pairs
Union R S a b = R a b ⊎ S a b

-- the pairs of both relations
abbrev pub Intersection : Pairs → Pairs → Pairs
Intersection R S a b = R a b × S a b

-- the pairs of the first relation that are not in the second
abbrev pub Difference : Pairs → Pairs → Pairs
Difference R S a b = R a b × (S a b → ⊥)

-- the pairs of the universe that are not in the relation
abbrev pub Complement : Events → Pairs → Pairs
Complement U R a b = U a × U b × (R a b → ⊥)

-- a step of the first relation, then one of the second
abbrev pub Sequence : Pairs → Pairs → Pairs
Sequence R S a c = (b : ℕ) × R a b × S b c

-- the relation read backwards
abbrev pub Inverse : Pairs → Pairs
Inverse R a b = R b a

-- every event of the first set with every event of the second
abbrev pub Product : Events → Events → Pairs
Product A B a b = A a × B b

-- every event of the set with itself
abbrev pub Identity : Events → Pairs
Identity A a b = A a × (a ≡ b)

-- at most one step
abbrev pub Maybe : Events → Pairs → Pairs
Maybe U R = Union (Identity U) R

-- one or more steps
pub data Path (R : Pairs) : ℕ → ℕ → Type 0 where
  one : {a b : ℕ} → R a b → Path R a b
  more : {a b c : ℕ} → R a b → Path R b c → Path R a c

-- any number of steps
abbrev pub Star : Events → Pairs → Pairs
Star U R = Union (Identity U) (Path R)

-- what the events of a set are related to
abbrev pub Image : Events → Pairs → Events
Image A R b = (a : ℕ) × A a × R a b

-- what something is related to
abbrev pub Range : Pairs → Events
Range R b = (a : ℕ) × R a b

-- what is related to itself
abbrev pub Diagonal : Pairs → Events
Diagonal R a = R a a

-- every pair of the first relation is in the second
abbrev pub Inside : Pairs → Pairs → Type 0
Inside R S = (a b : ℕ) → R a b → S a b

-- the relations have the same pairs
abbrev pub SamePairs : Pairs → Pairs → Type 0
SamePairs R S = (a b : ℕ) → R a b ↔ S a b

-- no pair is in the relation
abbrev pub Empty : Pairs → Type 0
Empty R = (a b : ℕ) → R a b → ⊥

-- no event is related to itself
abbrev pub Irreflexive : Pairs → Type 0
Irreflexive R = (a : ℕ) → R a a → ⊥

-- no event leads to itself in one or more steps
abbrev pub Acyclic : Pairs → Type 0
Acyclic R = Irreflexive (Path R)
