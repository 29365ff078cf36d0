use Rattle.sentence.proofs.Complete.{one_tree}
use Rattle.sentence.proofs.law.law_of_spelling.Goals as goal

pub returns : goal.returns
returns c = one_tree
