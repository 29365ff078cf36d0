use Rattle.term.proofs.term.Term.TheLaws.{the_size}
use Rattle.term.proofs.recursion.+denied.Given as goal

abbrev pub decreases-denied : goal.decreases-denied
decreases-denied l = the_size l.term.now
