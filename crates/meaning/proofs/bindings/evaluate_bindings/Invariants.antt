use Rattle.term.specs.Statements.{statements_of}
use Rattle.meaning.proofs.Gone.{Going}
use Rattle.meaning.proofs.bindings.evaluate_bindings.Given as goal

abbrev pub invariant-loop-statement : goal.invariant-loop-statement
invariant-loop-statement l = Going l.base (statements_of l.statements) l.statement-index l.values
