use Rattle.std.proofs.Common.{vec_items}
use Rattle.term.proofs.Kinding.{KindsLeft}
use Rattle.term.proofs.kinds.kind_fault.Given as goal

abbrev pub invariant-loop-statement : goal.invariant-loop-statement
invariant-loop-statement l = KindsLeft (vec_items l.known) l.fault l.statement-index l.statements
