-- The climb from the least value to one that its step leaves unchanged. Assumes nothing.
use Rattle.std.specs.Prelude.{ℕ, ◌+◌, List, [], ◌∷◌}

-- the values that rounds of the step lead to
pub data Rounds {S : Type 0} (Steps : S → S → Type 0) (start : S) : S → Type 0 where
  none : Rounds Steps start start
  again : {x y : S} → Rounds Steps start x → Steps x y → Rounds Steps start y

-- what a climb ends at: the least solution of its problem
pub record Climbed {S : Type 0} (Begins Steps Below Solves Along : S → S → Type 0) (problem end : S) : Type 0 where
  -- the step leaves it unchanged
  pub fixed : Steps end end
  -- rounds from the least value lead to it
  pub start : S
  pub least : Begins problem start
  pub reached : Rounds Steps start end
  -- what holds of every value on the way holds of it
  pub along : Along problem end
  -- it is a solution, and within every solution
  pub solution : Solves problem end
  pub within : (other : S) → Solves problem other → Below end other

-- the sum of the rows: a relation that has more pairs has a larger one
unfoldable pub total : List ℕ → ℕ
total [] = 0
total (x ∷ xs) = x + total xs
