use Rattle.relation.specs.Marked.{without_marks}
use Rattle.relation.proofs.mask.complement.Goals as goal

pub returns : goal.returns
returns c = without_marks c.ranges.universe.fits c.ranges.a.fits
