use Rattle.std.proofs.Common.{refl}
use Rattle.relation.specs.Closings.{closing_step}
use Rattle.relation.proofs.closing.ClosingAscent.step.Goals as goal

pub returns : goal.returns
returns c = closing_step _ _ refl c.union.ensures c.joined.ensures
