use Rattle.term.proofs.Lowering.{lowest}
use Rattle.term.proofs.law.law_of_least.Goals as goal

pub returns : goal.returns
returns c = lowest
