use Rattle.std.proofs.Common.{arith}
use Rattle.std.proofs.lemmas.Grind.{common_steps}
use Rattle.cat.proofs.Seen.{place_here, place_past}
use Rattle.cat.proofs.read.Source.place_of.Goals as goal

pub returns : goal.returns
returns c = grind (arith, common_steps, place_here, place_past)
