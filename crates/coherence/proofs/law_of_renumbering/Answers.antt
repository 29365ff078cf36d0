use Rattle.coherence.proofs.Moved.{carrying_law}
use Rattle.coherence.proofs.law_of_renumbering.Goals as goal

pub returns : goal.returns
returns c = carrying_law
