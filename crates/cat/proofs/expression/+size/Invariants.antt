use Rattle.std.proofs.Common.{length}
use Rattle.sentence.specs.Exprs.{tree_of}
use Rattle.sentence.specs.Trees.{spell}
use Rattle.cat.proofs.expression.+size.Given as goal

abbrev pub decreases-size : goal.decreases-size
decreases-size l = length (spell (tree_of l.tree.now))
