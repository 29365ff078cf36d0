use Rattle.run.proofs.Same.{examined_shown}
use Rattle.run.proofs.sound.soundness.Goals as goal

pub returns : goal.returns
returns g c = examined_shown _ _ _ c.of.ensures c.examine.ensures
