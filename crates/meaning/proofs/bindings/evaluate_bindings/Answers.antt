use Rattle.term.specs.Statements.{statement_of, statements_of}
use Rattle.meaning.proofs.Gone.{at_read, going_none, going_more}
use Rattle.meaning.proofs.bindings.evaluate_bindings.Goals as goal

pub loop-statement-init : goal.loop-statement-init
loop-statement-init c = going_none c.args.base.now (statements_of c.args.statements.now) c.clear.ensures

pub loop-statement-preserved : goal.loop-statement-preserved
loop-statement-preserved c =
    going_more c.args.base.now (statements_of c.args.statements.now) c.loop-statement.statement-index c.loop-statement.values c.add_statement.new.values (statement_of c.statement-item.result)
    (at_read statement_of c.args.statements.now c.loop-statement.statement-index c.statement-item.result c.loop-statement-test.true c.statement-item.is) c.loop-statement.invariant c.add_statement.ensures
