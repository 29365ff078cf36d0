-- The laws of coherence orders, so that a contract can name them. Assumes nothing.
use Rattle.std.specs.Prelude.{◌≡◌, ℕ, ◌<◌}
use Rattle.finite.specs.Counts.{Counts}
use Rattle.run.specs.Runs.{Run}
use Rattle.run.specs.Rules.{Sound}
use Rattle.coherence.specs.Coherence.{Order, Coherence}
use Rattle.coherence.specs.Numbers.{Orders, Number, Paired}

-- every run has one product of factorials
abbrev pub OneProduct : Type 0
OneProduct = (run : Run) → (n : ℕ) × Orders run n × ((m : ℕ) → Orders run m → m ≡ n)

-- in a sound run the numbers below the product and the coherence orders pair off
abbrev pub Pairing : Type 0
Pairing = (run : Run) (n : ℕ) → Sound run → Orders run n → Paired run n

-- so the product is how many coherence orders there are
abbrev pub Counted : Type 0
Counted = (run : Run) (n : ℕ) → Sound run → Orders run n → Counts (Coherence run) n

-- two runs with the same events have the same coherence orders, with the same numbers
pub record AlikeOrders (run other : Run) : Type 0 where
  pub coherence : (co : Order) → Coherence run co → Coherence other co
  pub number : (co : Order) (n : ℕ) → Number run co n → Number other co n
  pub product : (n : ℕ) → Orders run n → Orders other n

abbrev pub OnlyBelow32 : Type 0
OnlyBelow32 = (run other : Run) → ((n : ℕ) → n < 32 → run n ≡ other n) → AlikeOrders run other
