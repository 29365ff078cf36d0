use Rattle.record.proofs.Pastes.{placed_none}
use Rattle.record.proofs.writer.put.Goals as goal

pub returns-in-None : goal.returns-in-None
returns-in-None c = simp c.in-None.is (placed_none c.args.out.now c.args.at)
