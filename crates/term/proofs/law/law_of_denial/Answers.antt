use Rattle.term.proofs.Denying.{denied_names}
use Rattle.term.proofs.law.law_of_denial.Goals as goal

pub returns : goal.returns
returns c = denied_names
