use Rattle.cat.proofs.Latest.{given_once}
use Rattle.cat.proofs.law.law_of_given.Goals as goal

pub returns : goal.returns
returns c = given_once
