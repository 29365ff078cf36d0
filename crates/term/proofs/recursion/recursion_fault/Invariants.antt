use Rattle.term.proofs.Counting.{Counted}
use Rattle.term.proofs.recursion.recursion_fault.Given as goal

abbrev pub invariant-loop-statement : goal.invariant-loop-statement
invariant-loop-statement l = Counted l.before l.fault l.statement-index l.statements
