-- Runs: which event stands at which number. Assumes nothing.
use Rattle.std.specs.Prelude.{◌≡◌, ℕ, ◌<◌, cond, Some, None, Option, ◌==◌, nat_lt}
use Rattle.run.specs.declared.event.Event.{Event}

-- a run: at each number an event or nothing; numbers from 32 on do not count
abbrev pub Run : Type 0
Run = ℕ → Option Event

-- the run with no event
abbrev pub nothing : Run
nothing n = None

-- what a source answers when it is asked for a number: nothing above 31
abbrev pub shown : Run → ℕ → Option Event
shown run n = cond (nat_lt n 32) (run n) None

-- event e stands at number n
abbrev pub Stands : Run → ℕ → Event → Type 0
Stands run n e = (n < 32) × (run n ≡ Some e)

-- the run without what stands at a number
abbrev pub without : ℕ → Run → Run
without n run m = cond (m == n) None (run m)
