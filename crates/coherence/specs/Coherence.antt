-- Coherence orders: what they are. Assumes nothing.
use Rattle.std.specs.Prelude.{◌≡◌, ℕ, Bool, true, false, ◌⊎◌, ◌≢◌}
use Rattle.run.specs.declared.event.Event.{Event}
use Rattle.run.specs.Events.{Initial, Write}
use Rattle.run.specs.Runs.{Run, Stands}

-- a write of location l stands at n
pub record WriteOf (run : Run) (l n : ℕ) : Type 0 where
  pub event : Event
  pub stands : Stands run n event
  pub writes : Write event
  pub place : event.location ≡ l

-- an initial write of location l stands at n
pub record InitialOf (run : Run) (l n : ℕ) : Type 0 where
  pub event : Event
  pub stands : Stands run n event
  pub initial : Initial event
  pub place : event.location ≡ l

-- a settled write of location l stands at n
pub record SettledOf (run : Run) (l n : ℕ) : Type 0 where
  pub event : Event
  pub stands : Stands run n event
  pub writes : Write event
  pub settled : event.settled ≡ true
  pub place : event.location ≡ l

-- a free write of location l, neither initial nor settled, stands at n
pub record FreeOf (run : Run) (l n : ℕ) : Type 0 where
  pub event : Event
  pub stands : Stands run n event
  pub writes : Write event
  pub not_initial : Initial event → ⊥
  pub unsettled : event.settled ≡ false
  pub place : event.location ≡ l

-- an order, given as data: whether one event is before another
abbrev pub Order : Type 0
Order = ℕ → ℕ → Bool

-- within each location a strict total order of its writes, the initial one first, a settled one last; it relates nothing else
pub record Coherence (run : Run) (co : Order) : Type 0 where
  -- it relates writes of one location only
  pub only : (a b : ℕ) → co a b ≡ true → (l : ℕ) × WriteOf run l a × WriteOf run l b
  -- no write is before itself
  pub irreflexive : (a : ℕ) → co a a ≢ true
  -- what is before a write that is before a third is before the third
  pub transitive : (a b c : ℕ) → co a b ≡ true → co b c ≡ true → co a c ≡ true
  -- of two different writes of a location one is before the other
  pub total : (l a b : ℕ) → WriteOf run l a → WriteOf run l b → (a ≢ b) → (co a b ≡ true) ⊎ (co b a ≡ true)
  -- an initial write is before every other write of its location
  pub first : (l a b : ℕ) → InitialOf run l a → WriteOf run l b → (a ≢ b) → co a b ≡ true
  -- a settled write is after every other write of its location
  pub last : (l a b : ℕ) → WriteOf run l a → SettledOf run l b → (a ≢ b) → co a b ≡ true
