use Rattle.std.specs.Fn.{FnReturnsAt}
use Rattle.run.specs.Tests.{table_run}
use Rattle.run.proofs.Gathering.{Underway}
use Rattle.run.proofs.snapshot.Snapshot.gather.Given as goal

abbrev pub invariant-loop-n : goal.invariant-loop-n
invariant-loop-n g l = Underway (FnReturnsAt g.F.Fn l.test) (table_run l.self.events) l.n l.mask
