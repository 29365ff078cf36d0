use Rattle.run.specs.Tests.{table_run}
use Rattle.record.proofs.Fields.{Filling}
use Rattle.record.proofs.writer.stage.Given as goal

abbrev pub invariant-loop-n : goal.invariant-loop-n
invariant-loop-n g l = Filling (goal.F-post g l.call_of) (table_run l.table.events) l.n l.calls
