use Rattle.std.proofs.Common.{◌+◌, ◌-◌, ◌*◌, length}
use Rattle.sentence.specs.Exprs.{tree_of}
use Rattle.sentence.specs.Seats.{Seated, seats_of}
use Rattle.sentence.specs.Parsing.{Led}
use Rattle.sentence.proofs.Climbs.{Climbing}
use Rattle.sentence.proofs.parser.Parser.+expression.Given as goal

abbrev pub decreases-atom : goal.decreases-atom
decreases-atom l = (length l.self.sorts.now - l.at) * 16 + 1

abbrev pub decreases-between : goal.decreases-between
decreases-between l = (length l.self.sorts.now - l.at) * 16

abbrev pub decreases-ladder : goal.decreases-ladder
decreases-ladder l = (length l.self.sorts.now - l.at) * 16 + 4

abbrev pub decreases-postfixed : goal.decreases-postfixed
decreases-postfixed l = (length l.self.sorts.now - l.at) * 16 + 2

abbrev pub decreases-prefixed : goal.decreases-prefixed
decreases-prefixed l = (length l.self.sorts.now - l.at) * 16 + 3

abbrev pub invariant-ladder-loop-sign : goal.invariant-ladder-loop-sign
invariant-ladder-loop-sign l = Climbing l.self.sorts.now l.at l.rung (tree_of l.tree) l.next × Seated l.at (tree_of l.tree) (seats_of l.tree) l.next

abbrev pub decreases-ladder-loop-sign : goal.decreases-ladder-loop-sign
decreases-ladder-loop-sign l = length l.self.sorts.now - l.next

abbrev pub invariant-postfixed-loop-sign : goal.invariant-postfixed-loop-sign
invariant-postfixed-loop-sign l = Led l.self.sorts.now l.at 7 7 (tree_of l.tree) l.next × Seated l.at (tree_of l.tree) (seats_of l.tree) l.next

abbrev pub decreases-postfixed-loop-sign : goal.decreases-postfixed-loop-sign
decreases-postfixed-loop-sign l = length l.self.sorts.now - l.next
