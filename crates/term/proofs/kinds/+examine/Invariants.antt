use Rattle.term.proofs.term.Term.TheLaws.{the_size}
use Rattle.term.proofs.kinds.+examine.Given as goal

abbrev pub decreases-examine : goal.decreases-examine
decreases-examine l = the_size l.term.now
