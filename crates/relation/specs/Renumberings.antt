-- Renumberings of the events, and that they carry every operator along. Assumes nothing.
use Rattle.std.specs.Prelude.{◌≡◌, ℕ, ◌<◌, Bool, true, ◌↔◌}
use Rattle.relation.specs.Sets.{Events, Either, Both, Without, Outside, Vacant}
use Rattle.relation.specs.Relations.{Pairs, Union, Intersection, Difference, Complement, Sequence, Inverse, Product, Identity, Maybe, Path, Star, Image, Range, Diagonal, Empty, Irreflexive, Acyclic}

-- a one-to-one map of the numbers below 32, and the map that undoes it
pub record Renumbering (f g : ℕ → ℕ) : Type 0 where
  pub to : (n : ℕ) → n < 32 → f n < 32
  pub fro : (n : ℕ) → n < 32 → g n < 32
  pub there : (n : ℕ) → n < 32 → f (g n) ≡ n
  pub back : (n : ℕ) → n < 32 → g (f n) ≡ n

-- the second set is the first one renumbered
pub record CarriedEvents (f : ℕ → ℕ) (A A' : Events) : Type 0 where
  pub bound : (n : ℕ) → A n → n < 32
  pub bound' : (n : ℕ) → A' n → n < 32
  pub same : (n : ℕ) → n < 32 → A n ↔ A' (f n)

-- the second relation is the first one renumbered
pub record Carried (f : ℕ → ℕ) (R R' : Pairs) : Type 0 where
  pub bound : (a b : ℕ) → R a b → (a < 32) × (b < 32)
  pub bound' : (a b : ℕ) → R' a b → (a < 32) × (b < 32)
  pub same : (a b : ℕ) → a < 32 → b < 32 → R a b ↔ R' (f a) (f b)

-- the set of the events that pass a test
abbrev pub Passing : (ℕ → Bool) → Events
Passing p n = p n ≡ true

-- the relation of the pairs that pass a test
abbrev pub PassingPairs : (ℕ → ℕ → Bool) → Pairs
PassingPairs r a b = r a b ≡ true

-- an operator of two sets gives renumbered sets a renumbered set
abbrev pub CarriesSets : (Events → Events → Events) → Type 0
CarriesSets Op =
    (f g : ℕ → ℕ) → Renumbering f g → (p p' q q' : ℕ → Bool) → CarriedEvents f (Passing p) (Passing p') → CarriedEvents f (Passing q) (Passing q') → CarriedEvents f (Op (Passing p) (Passing q)) (Op (Passing p') (Passing q'))

-- an operator of two relations gives renumbered relations a renumbered relation
abbrev pub CarriesTwo : (Pairs → Pairs → Pairs) → Type 0
CarriesTwo Op =
    (f g : ℕ → ℕ) → Renumbering f g → (r r' s s' : ℕ → ℕ → Bool) → Carried f (PassingPairs r) (PassingPairs r') → Carried f (PassingPairs s) (PassingPairs s') → Carried f (Op (PassingPairs r) (PassingPairs s)) (Op (PassingPairs r') (PassingPairs s'))

-- an operator of one relation
abbrev pub CarriesOne : (Pairs → Pairs) → Type 0
CarriesOne Op =
    (f g : ℕ → ℕ) → Renumbering f g → (r r' : ℕ → ℕ → Bool) → Carried f (PassingPairs r) (PassingPairs r') → Carried f (Op (PassingPairs r)) (Op (PassingPairs r'))

-- an operator of a universe and a relation
abbrev pub CarriesScoped : (Events → Pairs → Pairs) → Type 0
CarriesScoped Op =
    (f g : ℕ → ℕ) → Renumbering f g → (p p' : ℕ → Bool) (r r' : ℕ → ℕ → Bool) → CarriedEvents f (Passing p) (Passing p') → Carried f (PassingPairs r) (PassingPairs r') → Carried f (Op (Passing p) (PassingPairs r)) (Op (Passing p') (PassingPairs r'))

-- an operator that makes a relation of two sets
abbrev pub CarriesProduct : (Events → Events → Pairs) → Type 0
CarriesProduct Op =
    (f g : ℕ → ℕ) → Renumbering f g → (p p' q q' : ℕ → Bool) → CarriedEvents f (Passing p) (Passing p') → CarriedEvents f (Passing q) (Passing q') → Carried f (Op (Passing p) (Passing q)) (Op (Passing p') (Passing q'))

-- an operator that makes a relation of one set
abbrev pub CarriesSet : (Events → Pairs) → Type 0
CarriesSet Op =
    (f g : ℕ → ℕ) → Renumbering f g → (p p' : ℕ → Bool) → CarriedEvents f (Passing p) (Passing p') → Carried f (Op (Passing p)) (Op (Passing p'))

-- an operator that makes a set of a set and a relation
abbrev pub CarriesImage : (Events → Pairs → Events) → Type 0
CarriesImage Op =
    (f g : ℕ → ℕ) → Renumbering f g → (p p' : ℕ → Bool) (r r' : ℕ → ℕ → Bool) → CarriedEvents f (Passing p) (Passing p') → Carried f (PassingPairs r) (PassingPairs r') → CarriedEvents f (Op (Passing p) (PassingPairs r)) (Op (Passing p') (PassingPairs r'))

-- an operator that makes a set of a relation
abbrev pub CarriesPart : (Pairs → Events) → Type 0
CarriesPart Op =
    (f g : ℕ → ℕ) → Renumbering f g → (r r' : ℕ → ℕ → Bool) → Carried f (PassingPairs r) (PassingPairs r') → CarriedEvents f (Op (PassingPairs r)) (Op (PassingPairs r'))

-- a renumbered relation passes a check where the relation does
abbrev pub CarriesCheck : (Pairs → Type 0) → Type 0
CarriesCheck Check =
    (f g : ℕ → ℕ) → Renumbering f g → (r r' : ℕ → ℕ → Bool) → Carried f (PassingPairs r) (PassingPairs r') → Check (PassingPairs r) ↔ Check (PassingPairs r')

-- a renumbered set passes a check where the set does
abbrev pub CarriesSetCheck : (Events → Type 0) → Type 0
CarriesSetCheck Check =
    (f g : ℕ → ℕ) → Renumbering f g → (p p' : ℕ → Bool) → CarriedEvents f (Passing p) (Passing p') → Check (Passing p) ↔ Check (Passing p')

-- every operator and every check is carried along
pub record Renumbered : Type 0 where
  pub either : CarriesSets Either
  pub both : CarriesSets Both
  pub without : CarriesSets Without
  pub outside : CarriesSets Outside
  pub union : CarriesTwo Union
  pub intersection : CarriesTwo Intersection
  pub difference : CarriesTwo Difference
  pub complement : CarriesScoped Complement
  pub sequence : CarriesTwo Sequence
  pub inverse : CarriesOne Inverse
  pub product : CarriesProduct Product
  pub identity : CarriesSet Identity
  pub maybe : CarriesScoped Maybe
  pub path : CarriesOne Path
  pub star : CarriesScoped Star
  pub image : CarriesImage Image
  pub range : CarriesPart Range
  pub diagonal : CarriesPart Diagonal
  pub vacant : CarriesSetCheck Vacant
  pub empty : CarriesCheck Empty
  pub irreflexive : CarriesCheck Irreflexive
  pub acyclic : CarriesCheck Acyclic
