use Rattle.std.proofs.Common.{vec_items}
use Rattle.term.proofs.Lowering.{lowest_is}
use Rattle.term.proofs.Kinding.{kinds_more, kinds_done}
use Rattle.term.proofs.kinds.kind_fault.Goals as goal

pub loop-statement-preserved : goal.loop-statement-preserved
loop-statement-preserved c =
    kinds_more (vec_items c.loop-statement.known) (vec_items c.statement_kind.new.known) c.args.statements.now c.loop-statement.statement-index c.statement-item.result c.loop-statement-test.true
    c.statement-item.is c.loop-statement.invariant c.in_ok-here.ensures.known c.in_ok-here.ensures.fault c.lower-fault.ensures

pub returns : goal.returns
returns c =
    let e = kinds_done (vec_items c.loop-statement.known) c.args.statements.now c.loop-statement.statement-index c.loop-statement-test.false c.loop-statement.invariant in
    record { lowest = lowest_is _ e; least = e }
