use Rattle.run.proofs.Tables.{holds_nothing}
use Rattle.run.proofs.snapshot.Snapshot.empty.Goals as goal

pub returns : goal.returns
returns c = holds_nothing 32
