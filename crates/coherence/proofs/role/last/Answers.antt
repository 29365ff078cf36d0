use Rattle.std.proofs.Common.{rules}
use Rattle.coherence.proofs.Masks.{mask_gathered}
use Rattle.coherence.proofs.role.last.Goals as goal

pub returns : goal.returns
returns c = mask_gathered _ _ _ (λ e b h. search rules) c.gather.ensures
