-- What the count and the n-th order tell. Assumes nothing.
use Rattle.std.specs.Prelude.{◌≡◌, ℕ, ◌<◌, ◌≤◌, Bool, true, false, List, Some, None, Option}
use Rattle.finite.specs.Counts.{Counts}
use Rattle.run.specs.Runs.{Run}
use Rattle.run.specs.Rules.{Sound}
use Rattle.coherence.specs.Coherence.{Order, Coherence}
use Rattle.coherence.specs.Numbers.{Orders, Number}
use Rattle.coherence.specs.Masks.{Shown}

-- n is the product of the factorials, and in a sound run there are exactly n coherence orders
pub record Has (run : Run) (n : ℕ) : Type 0 where
  pub product : Orders run n
  pub count : Sound run → Counts (Coherence run) n

-- how many orders there are, or that they are over 5,040
abbrev pub Told : Run → Option ℕ → Type 0
Told run None = (n : ℕ) × Has run n × (5040 < n)
Told run (Some n) = Has run n × (n ≤ 5040)

-- the rows are an order of the number; in a sound run it is the coherence order of that number
pub record Holds (run : Run) (n : ℕ) (rows : List ℕ) : Type 0 where
  pub co : Order
  pub shown : Shown rows co
  pub coherent : Sound run → Coherence run co
  pub number : Sound run → Number run co n

-- the order of a number that is below the product stands in the place; of any other number the place is as it was
abbrev pub Gives : Run → ℕ → List ℕ → List ℕ → Bool → Type 0
Gives run n before after true = ((m : ℕ) × Orders run m × (n < m)) × Holds run n after
Gives run n before after false = ((m : ℕ) × Orders run m × (m ≤ n)) × (after ≡ before)
