-- Windows: one location of a run. Assumes nothing.
use Rattle.std.specs.Prelude.{◌≡◌, ℕ, cond, ◌&&◌, ◌↔◌, Some, None, Option, ◌==◌}
use Rattle.refusal.specs.declared.Refusal.{Refusal}
use Rattle.refusal.specs.declared.Part.TheVariants.{Window}
use Rattle.run.specs.declared.event.Event.{Event}
use Rattle.run.specs.Events.{Memory}
use Rattle.run.specs.Runs.{Run, Stands}
use Rattle.run.specs.Tests.{is_memory}

-- an event that is a read or write of the location, else nothing
abbrev pub within : ℕ → Option Event → Option Event
within l None = None
within l (Some e) = cond (is_memory e && e.location == l) (Some e) None

-- the run that a window shows
abbrev pub windowed : ℕ → Run → Run
windowed l run n = within l (run n)

-- exactly the reads and writes of one location of the run below stand in the run above
abbrev pub ShowsLocation : ℕ → Run → Run → Type 0
ShowsLocation l below above = (n : ℕ) (e : Event) → Stands above n e ↔ (Stands below n e × Memory e × (e.location ≡ l))

-- the window's fault as it is told
abbrev pub window_refusal : Refusal
window_refusal = record { number = 23; part = Window; place = 0 }
