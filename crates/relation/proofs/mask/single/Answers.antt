use Rattle.relation.specs.Marked.{power_marks}
use Rattle.relation.proofs.mask.single.Goals as goal

pub returns : goal.returns
returns c = power_marks _ c.requires
