-- What the reader's iterator has left. Assumes nothing.
use Rattle.std.specs.Prelude.{ℕ, List}
use Rattle.bench.specs.declared.action.Action.{Action}
use Rattle.record.specs.declared.calls.Calls.{Calls}
use Rattle.record.specs.Reading.{calls_from}

-- the calls from its place on
abbrev pub left : Calls → List (ℕ × Action)
left s = calls_from s.at s.bytes.now
