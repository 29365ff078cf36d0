use Rattle.term.proofs.Ruled.{rules_of_kinds}
use Rattle.term.proofs.law.law_of_kinds.Goals as goal

pub returns : goal.returns
returns c = rules_of_kinds
