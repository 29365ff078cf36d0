use Rattle.relation.proofs.Carried.{all_carried}
use Rattle.relation.proofs.renumbering.law_of_renumbering.Goals as goal

pub returns : goal.returns
returns c = all_carried
