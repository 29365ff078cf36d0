-- The steps of a bench: what each call makes of a run. Assumes nothing.
use Rattle.std.specs.Prelude.{ℕ, true, false, cond, List, [], ◌∷◌, Some, None, Option, ◌==◌}
use Rattle.std.specs.Option.{option_map}
use Rattle.run.specs.declared.event.Event.{Event}
use Rattle.bench.specs.declared.action.Entry.{Entry}
use Rattle.bench.specs.declared.action.Action.{Action}
use Rattle.bench.specs.declared.action.Action.TheVariants.{Enter, Tie, Settle}
use Rattle.run.specs.Runs.{Run}

-- the event that an entry puts down: no source, not settled
abbrev pub fresh : Entry → Event
fresh x = record { kind = x.kind; thread = x.thread; step = x.step; location = x.location; value = x.value; source = None; settled = false }

-- the run with another answer at one number
abbrev pub put : Run → ℕ → Option Event → Run
put run k o n = cond (n == k) o (run n)

-- the event with its source, in place of an earlier one
abbrev pub sourced : ℕ → Event → Event
sourced w e = record { kind = e.kind; thread = e.thread; step = e.step; location = e.location; value = e.value; source = Some w; settled = e.settled }

-- the event, settled
abbrev pub final : Event → Event
final e = record { kind = e.kind; thread = e.thread; step = e.step; location = e.location; value = e.value; source = e.source; settled = true }

-- what an action makes of a run when it is a step
abbrev pub taken : Run → Action → Run
-- enter puts down the event, with no source and not settled
taken run (Enter x) = put run x.number (Some (fresh x))
-- tie gives the read its source
taken run (Tie r w) = put run r (option_map (sourced w) (run r))
-- settle marks the write
taken run (Settle n) = put run n (option_map final (run n))

-- the run that actions lead to when each of them is a step
abbrev pub led : Run → List Action → Run
led run [] = run
led run (a ∷ more) = led (taken run a) more
