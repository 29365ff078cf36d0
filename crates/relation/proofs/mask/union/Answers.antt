use Rattle.relation.specs.Marked.{or_marks}
use Rattle.relation.proofs.mask.union.Goals as goal

pub returns : goal.returns
returns c = or_marks c.ranges.a.fits c.ranges.b.fits
