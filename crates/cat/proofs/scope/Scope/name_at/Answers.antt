use Rattle.std.proofs.Common.{arith}
use Rattle.std.proofs.lemmas.Grind.{common_steps}
use Rattle.cat.proofs.Seen.{name_past, name_here}
use Rattle.cat.proofs.scope.Scope.name_at.Goals as goal

pub returns : goal.returns
returns c = grind (arith, common_steps, name_past, name_here)
