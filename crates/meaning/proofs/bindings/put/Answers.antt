use Rattle.std.proofs.Common.{arith}
use Rattle.meaning.proofs.Knowing.{putting_none, putting_more}
use Rattle.meaning.proofs.bindings.put.Goals as goal

pub loop-relation-init : goal.loop-relation-init
loop-relation-init c = putting_none c.args.values.now

pub loop-relation-preserved : goal.loop-relation-preserved
loop-relation-preserved c =
    putting_more c.args.values.now c.loop-relation.values c.push.new.self c.args.found.now c.loop-relation.relation-index c.pairs.result _ (omega arith) c.loop-relation.invariant c.push.ensures.room c.pairs.ensures
