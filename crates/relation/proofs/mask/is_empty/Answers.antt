use Rattle.relation.specs.Marked.{nothing_decides}
use Rattle.relation.proofs.mask.is_empty.Goals as goal

pub returns : goal.returns
returns c = nothing_decides _ c.ranges.a.fits
