use Rattle.std.proofs.Common.{◌≡◌}
use Rattle.run.specs.Tests.{table_run}
use Rattle.coherence.specs.Laying.{rows_at}
use Rattle.coherence.proofs.line.lay_lines.Given as goal

abbrev pub invariant-loop-location : goal.invariant-loop-location
invariant-loop-location l = l.order.rows ≡ rows_at (table_run l.events.events) l.digits l.location
