use Rattle.std.proofs.Common.{sym}
use Rattle.cat.proofs.Counting.{counting_first, counting_more, counting_over, counting_done}
use Rattle.cat.proofs.class.over_limit.Goals as goal

pub loop-at-init : goal.loop-at-init
loop-at-init c = let h = c.default-tally.ensures in counting_first c.args.sorts.now c.default-tally.result h.0 h.1.0 h.1.1.0 h.1.1.1

pub returns-then-is_past : goal.returns-then-is_past
returns-then-is_past c =
    counting_over c.args.sorts.now c.loop-at.at c.loop-at.tally c.class_of-class.result c.class_at.result c.loop-at.invariant c.loop-at-test.true c.class_of-class.ensures c.class_at.ensures
    (sym c.if-is_past.ensures)

pub loop-at-preserved : goal.loop-at-preserved
loop-at-preserved c =
    counting_more c.args.sorts.now c.loop-at.at c.loop-at.tally c.with-tally.result c.class_of-class.result c.class_at.result c.loop-at.invariant c.loop-at-test.true c.class_of-class.ensures c.class_at.ensures
    (sym c.if-is_past.ensures) c.with-tally.ensures

pub returns : goal.returns
returns c = counting_done c.args.sorts.now c.loop-at.at c.loop-at.tally c.loop-at.invariant c.loop-at-test.false
