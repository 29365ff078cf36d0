use Rattle.std.proofs.Common.{◌≡◌, length, sym, refl, subst, arith, rules}
use Rattle.coherence.proofs.Masks.{mask_size}
use Rattle.coherence.proofs.Laying.{Underway, underway_start, underway_more, underway_done}
use Rattle.coherence.proofs.line.lay.Goals as goal

pub loop-others-init : goal.loop-others-init
loop-others-init c =
    let long : length c.args.order.now.rows ≡ 32 = search rules in
    subst (Underway _ _ _ _ _ _) (sym (mask_size c.args.group (search rules))) (underway_start c.args.order.now.rows c.args.rest c.args.group c.args.digit long c.requires.below c.requires.small)

pub loop-others-preserved : goal.loop-others-preserved
loop-others-preserved c =
    underway_more _ _ c.loop-others.order.rows c.loop-others.rest c.loop-others.group c.loop-others.digit c.loop-others.others _ c.factorial-radix.result c.select-event.result _ _ _
    c.loop-others.invariant (omega arith) c.factorial-radix.ensures.value c.select-event.ensures.found refl c.without-group.ensures c.without-rest.ensures

pub returns : goal.returns
returns c =
    let t = underway_done _ _ c.loop-others.order.rows c.loop-others.rest c.loop-others.group c.loop-others.digit c.loop-others.others c.loop-others.invariant (omega arith) in
    record { rows = t.0; rest = t.1 }
