use Rattle.cat.proofs.Bounded.{reads_bounded}
use Rattle.cat.proofs.law.law_of_limits.Goals as goal

pub returns : goal.returns
returns c = reads_bounded
