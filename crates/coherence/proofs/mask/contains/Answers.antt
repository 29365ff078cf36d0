use Rattle.std.proofs.Common.{refl}
use Rattle.coherence.specs.Masks.{has}
use Rattle.coherence.proofs.mask.contains.Goals as goal

pub returns : goal.returns
unfolding has
returns c = refl
