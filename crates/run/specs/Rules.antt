-- The rules of a sound run, and which events are at fault. Assumes nothing.
use Rattle.std.specs.Prelude.{◌≡◌, ℕ, ◌<◌, true, Some, None, Option}
use Rattle.run.specs.declared.event.Event.{Event}
use Rattle.run.specs.declared.rule.Rule.{Rule}
use Rattle.run.specs.declared.rule.Rule.TheVariants.{Ranges, Steps, Initials, Sources, Settlings, Initialised, Tied}
use Rattle.run.specs.declared.rule.Breach.{Breach}
use Rattle.run.specs.Events.{Read, Initial, Write, Memory, Threaded, SamePlace, InRange}
use Rattle.run.specs.Runs.{Run, Stands}
use Rattle.run.specs.Numbers.{rule_number}

-- a standing write of the location and value of e, at number w
pub record Supplies (run : Run) (w : ℕ) (e : Event) : Type 0 where
  pub write : Event
  pub stands : Stands run w write
  pub writes : Write write
  pub place : SamePlace write e
  pub same : write.value ≡ e.value

-- the event at n is the only settled write of its location
abbrev pub OnlySettled : Run → ℕ → Event → Type 0
OnlySettled run n e = (m : ℕ) (f : Event) → Stands run m f → Write f → f.settled ≡ true → SamePlace f e → m ≡ n

-- the event at n is the only write of its location
abbrev pub OnlyWrite : Run → ℕ → Event → Type 0
OnlyWrite run n e = (m : ℕ) (f : Event) → Stands run m f → Write f → SamePlace f e → m ≡ n

-- what each rule asks of the event e that stands at n
abbrev pub Keeps : Rule → Run → ℕ → Event → Type 0
-- each field is in its range
Keeps Ranges run n e = InRange e
-- no two events of a thread 1 to 8 have the same step
Keeps Steps run n e = Threaded e → (m : ℕ) (f : Event) → Stands run m f → f.thread ≡ e.thread → f.step ≡ e.step → m ≡ n
-- no location has two initial writes
Keeps Initials run n e = Initial e → (m : ℕ) (f : Event) → Stands run m f → Initial f → SamePlace f e → m ≡ n
-- only reads have a source, which is a standing write of the same location and value
Keeps Sources run n e = (w : ℕ) → e.source ≡ Some w → Read e × Supplies run w e
-- only writes are settled, at most one in a location, and an initial one only if it is its location's sole write
Keeps Settlings run n e = e.settled ≡ true → Write e × OnlySettled run n e × (Initial e → OnlyWrite run n e)
-- each location of a read or write has an initial write
Keeps Initialised run n e = Memory e → (m : ℕ) × (f : Event) × Stands run m f × Initial f × SamePlace f e
-- each read has a source
Keeps Tied run n e = Read e → (w : ℕ) × (e.source ≡ Some w)

-- every standing event keeps the rule
abbrev pub Kept : Rule → Run → Type 0
Kept rule run = (n : ℕ) (e : Event) → Stands run n e → Keeps rule run n e

-- every standing event keeps every rule
abbrev pub Sound : Run → Type 0
Sound run = (rule : Rule) → Kept rule run

-- the first rule that is broken, with the lowest event at fault
pub record FirstBreach (run : Run) (b : Breach) : Type 0 where
  -- an event stands there and does not keep the rule
  pub event : Event
  pub stands : Stands run b.event event
  pub at_fault : Keeps b.rule run b.event event → ⊥
  -- every lower event keeps it
  pub lowest : (n : ℕ) (e : Event) → n < b.event → Stands run n e → Keeps b.rule run n e
  -- every rule before it is kept
  pub first : (rule : Rule) → rule_number rule < rule_number b.rule → Kept rule run

-- the answer to the question whether a run is sound: nothing, or the first breach
abbrev pub Examined : Run → Option Breach → Type 0
Examined run None = Sound run
Examined run (Some b) = FirstBreach run b
