use Rattle.relation.specs.Marked.{gated_marks}
use Rattle.relation.proofs.mask.gated.Goals as goal

pub returns : goal.returns
returns c = gated_marks c.args.a _ _ c.requires c.ranges.b.fits
