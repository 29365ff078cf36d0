-- Masks: sets of numbers below 32 as bits. Assumes nothing.
use Rattle.std.specs.Prelude.{◌≡◌, ℕ, ◌^◌, ◌<◌, Bool, false, None, ◌==◌}
use Rattle.std.specs.Int.{bit_at}
use Rattle.run.specs.declared.event.Event.{Event}
use Rattle.run.specs.Runs.{Run, Stands, shown}

-- the number is in the set that the mask shows
abbrev pub has : ℕ → ℕ → Bool
has mask n = bit_at mask n == 1

-- a mask has a test's answer at each standing event, and no other number
pub record Gathered (answers : Event → Bool → Type 0) (run : Run) (mask : ℕ) : Type 0 where
  -- it has 32 bits
  pub fits : mask < 2 ^ 32
  -- where an event stands, the test may answer of it what the bit says
  pub answered : (n : ℕ) (e : Event) → Stands run n e → answers e (has mask n)
  -- where none is shown, the bit is clear
  pub clear : (n : ℕ) → shown run n ≡ None → has mask n ≡ false
