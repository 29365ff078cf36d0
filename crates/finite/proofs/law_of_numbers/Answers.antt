use Rattle.finite.proofs.Counts.{count_computed}
use Rattle.finite.proofs.law_of_numbers.Goals as goal

pub returns : goal.returns
returns c = count_computed
