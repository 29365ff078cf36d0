-- Runs that differ only in event numbers. Assumes nothing.
use Rattle.std.specs.Prelude.{◌≡◌, ℕ, ◌<◌, ◌&&◌, Some, None, Option, nat_lt}
use Rattle.run.specs.declared.event.Event.{Event}
use Rattle.run.specs.Runs.{Run}
use Rattle.finite.specs.Counts.{Counts}
use Rattle.coherence.specs.Coherence.{Order, Coherence}

-- the numbers 0 to 31 are renumbered one to one
pub record Renumbering (to from : ℕ → ℕ) : Type 0 where
  pub to_below : (n : ℕ) → n < 32 → to n < 32
  pub from_below : (n : ℕ) → n < 32 → from n < 32
  pub to_from : (n : ℕ) → n < 32 → to (from n) ≡ n
  pub from_to : (n : ℕ) → n < 32 → from (to n) ≡ n

-- a source, renumbered
abbrev pub moved_source : (ℕ → ℕ) → Option ℕ → Option ℕ
moved_source to None = None
moved_source to (Some w) = Some (to w)

-- what stands at a number, with its source renumbered
abbrev pub moved_event : (ℕ → ℕ) → Option Event → Option Event
moved_event to None = None
moved_event to (Some e) = Some (record { kind = e.kind; thread = e.thread; step = e.step; location = e.location; value = e.value; source = moved_source to e.source; settled = e.settled })

-- the other run is the run with its events and sources renumbered
pub record Renumbered (run other : Run) (to from : ℕ → ℕ) : Type 0 where
  pub numbers : Renumbering to from
  pub events : (n : ℕ) → n < 32 → other (to n) ≡ moved_event to (run n)

-- an order, renumbered
abbrev pub moved_order : (ℕ → ℕ) → Order → Order
moved_order from co a b = (nat_lt a 32 && nat_lt b 32) && co (from a) (from b)

-- the coherence orders of the one run go over to those of the other, one to one
pub record Carries (run other : Run) (from : ℕ → ℕ) : Type 0 where
  -- each goes over to one
  pub over : (co : Order) → Coherence run co → Coherence other (moved_order from co)
  -- no two to the same
  pub one : (co co' : Order) → Coherence run co → Coherence run co' → moved_order from co ≡ moved_order from co' → co ≡ co'
  -- and each comes from one
  pub onto : (co' : Order) → Coherence other co' → (co : Order) × Coherence run co × (moved_order from co ≡ co')
  -- so the count stays
  pub count : (n : ℕ) → Counts (Coherence run) n → Counts (Coherence other) n

abbrev pub Carrying : Type 0
Carrying = (run other : Run) (to from : ℕ → ℕ) → Renumbered run other to from → Carries run other from
