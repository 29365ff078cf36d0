use Rattle.relation.specs.Marked.{and_marks}
use Rattle.relation.proofs.mask.intersection.Goals as goal

pub returns : goal.returns
returns c = and_marks c.ranges.a.fits
