use Rattle.std.proofs.Common.{◌<◌, arith}
use Rattle.term.proofs.Lowering.{lowest_is}
use Rattle.term.proofs.Counting.{counted_more, counted_done}
use Rattle.term.proofs.recursion.recursion_fault.Goals as goal

pub loop-statement-preserved : goal.loop-statement-preserved
loop-statement-preserved c =
    counted_more c.loop-statement.before c.loop-statement.statement-index c.binds.result c.args.statements.now c.statement-item.result c.loop-statement-test.true c.statement-item.is
    c.loop-statement.invariant (let z : c.binds.result < 18446744073709551616 = omega arith in z) c.binds.ensures c.statement_denied.ensures c.lower-fault.ensures

pub returns : goal.returns
returns c =
    let e = counted_done c.loop-statement.before c.loop-statement.statement-index c.args.statements.now c.loop-statement-test.false c.loop-statement.invariant in
    record { lowest = lowest_is _ e; least = e }
