use Rattle.term.proofs.term.Term.TheLaws.{the_size}
use Rattle.term.proofs.names.+unbound.Given as goal

abbrev pub decreases-unbound : goal.decreases-unbound
decreases-unbound l = the_size l.term.now
