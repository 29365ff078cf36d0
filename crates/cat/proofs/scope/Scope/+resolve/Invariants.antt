use Rattle.std.proofs.Common.{length}
use Rattle.sentence.specs.Exprs.{tree_of}
use Rattle.sentence.specs.Trees.{spell}
use Rattle.cat.proofs.scope.Scope.+resolve.Given as goal

abbrev pub decreases-resolve : goal.decreases-resolve
decreases-resolve l = length (spell (tree_of l.tree.now))
