-- Rows made by a function. Assumes nothing.
use Rattle.std.specs.Prelude.{◌≡◌, ℕ, ◌^◌, ◌<◌, List, length, slice_index}

-- the function may be called at each event
abbrev pub TakesEvents : (ℕ → Type 0) → Type 0
TakesEvents takes = (a : ℕ) → a < 32 → takes a

-- there are 32 rows, each fits, and is what the function gives for its event
pub record RowsBy (gives : ℕ → ℕ → Type 0) (rows : List ℕ) : Type 0 where
  pub long : length rows ≡ 32
  pub fits : (a : ℕ) → slice_index rows a < 2 ^ 32
  pub each : (a : ℕ) → a < 32 → gives a (slice_index rows a)
