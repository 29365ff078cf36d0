-- A let rec group as a problem of the climb. Assumes nothing.
use Rattle.std.specs.Prelude.{◌≡◌, ℕ, ◌+◌, ◌-◌, ◌*◌, ◌^◌, ◌<◌, ◌≤◌, List, [], ◌∷◌, length, slice_index}
use Rattle.relation.specs.declared.relation.Relation.{Relation}
use Rattle.relation.specs.Relations.{Never, Union, Inside, SamePairs, Empty}
use Rattle.relation.specs.Masks.{Shows}
use Rattle.relation.specs.Climbs.{total}
use Rattle.meaning.specs.declared.solving.Solving.{Solving}
use Rattle.meaning.specs.Systems.{System, rows_at, Table, Body, Positive, slots}

-- no pair is found yet
pub record SolvingBegins {E : Type 0} (problem x : Solving E) : Type 0 where
  pub equations : x.equations ≡ problem.equations
  pub long : length x.found ≡ 64
  pub nothing : (i : ℕ) → i < 64 → Shows (rows_at x.found i) Never

-- the sum of all rows: a table with more pairs has a larger one
unfoldable pub totals : List Relation → ℕ
totals [] = 0
totals (x ∷ xs) = total x.rows + totals xs

-- how far a table can still rise
abbrev pub solving_height : {E : Type 0} → Solving E → ℕ
solving_height x = 64 * (32 * 2 ^ 32) - totals x.found

module _ {E : Type 0} (system : E → System) where
  -- what is found, and for each name of the group what the equations give of it
  pub record SolvingSteps (x y : Solving E) : Type 0 where
    pub equations : y.equations ≡ x.equations
    pub long : length y.found ≡ 64
    pub found : (i : ℕ) → i < slots (system x.equations) → Shows (rows_at y.found i) (Union (Table x.found i) (Body (system x.equations) (Table x.found) i))
    pub rest : (i : ℕ) → slots (system x.equations) ≤ i → rows_at y.found i ≡ rows_at x.found i

  -- the same pairs are found for each name
  abbrev pub SolvingAlike : Solving E → Solving E → Type 0
  SolvingAlike x y = (i : ℕ) → i < slots (system x.equations) → SamePairs (Table x.found i) (Table y.found i)

  -- every pair that the first has found, the second has, where no name is denied
  abbrev pub SolvingBelow : Solving E → Solving E → Type 0
  SolvingBelow x z = Positive (system x.equations) → (i : ℕ) → Inside (Table x.found i) (Table z.found i)

  -- the equations give nothing else
  abbrev pub SolvingSolves : Solving E → Solving E → Type 0
  SolvingSolves problem z = (i : ℕ) → i < slots (system problem.equations) → Inside (Body (system problem.equations) (Table z.found) i) (Table z.found i)

  -- what is found fits, is of the group's names alone, and is what the equations give of it, where no name is denied
  pub record SolvingAlong (problem x : Solving E) : Type 0 where
    pub equations : x.equations ≡ problem.equations
    pub long : length x.found ≡ 64
    pub rows : (i : ℕ) → i < 64 → length (rows_at x.found i) ≡ 32
    pub fits : (i : ℕ) → i < 64 → (a : ℕ) → slice_index (rows_at x.found i) a < 2 ^ 32
    pub rest : (i : ℕ) → slots (system problem.equations) ≤ i → Empty (Table x.found i)
    pub given : Positive (system problem.equations) → (i : ℕ) → i < slots (system problem.equations) → Inside (Table x.found i) (Body (system problem.equations) (Table x.found) i)
