use Rattle.std.proofs.Common.{◌-◌, length, vec_items}
use Rattle.sentence.specs.Exprs.{tree_of}
use Rattle.sentence.specs.Statements.{trees_of}
use Rattle.sentence.proofs.Phrases.{Grouping}
use Rattle.sentence.proofs.parser.Parser.group.Given as goal

abbrev pub invariant-loop-self : goal.invariant-loop-self
invariant-loop-self l = Grouping l.self.sorts.now l.at (tree_of l.head.item.tree) (trees_of (vec_items l.more)) l.next

abbrev pub decreases-loop-self : goal.decreases-loop-self
decreases-loop-self l = length l.self.sorts.now - l.next
