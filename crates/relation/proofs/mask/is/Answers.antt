use Rattle.relation.specs.Marked.{same_decides}
use Rattle.relation.proofs.mask.is.Goals as goal

pub returns : goal.returns
returns c = same_decides _ _ c.ranges.a.fits c.ranges.b.fits
