use Rattle.relation.specs.Marked.{without_marks}
use Rattle.relation.proofs.mask.difference.Goals as goal

pub returns : goal.returns
returns c = without_marks c.ranges.a.fits c.ranges.b.fits
