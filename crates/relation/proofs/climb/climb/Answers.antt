use Rattle.std.proofs.lemmas.Bool.Decides.{not_from_Decides}
use Rattle.relation.proofs.Climbing.{climbing_none, climbing_more, climbing_done}
use Rattle.relation.proofs.climb.climb.Goals as goal

pub loop-value-init : goal.loop-value-init
loop-value-init g c = climbing_none (g.met.S.Ascent.start _) (g.met.S.Ascent.least _) c.bottom-value.ensures

pub returns-then-is : goal.returns-then-is
returns-then-is g c =
    let here = c.loop-value.invariant.along in
    let next = g.met.S.Ascent.onward _ _ _ here c.step-next.ensures in
    climbing_done (g.met.S.Ascent.solved _) c.loop-value.invariant c.step-next.ensures
    (g.met.S.Ascent.matched _ _ _ here next (c.is.ensures.0 c.if-is.true))

pub loop-value-preserved : goal.loop-value-preserved
loop-value-preserved g c = climbing_more (g.met.S.Ascent.onward _) (g.met.S.Ascent.within _) c.loop-value.invariant c.step-next.ensures

pub loop-value-smaller : goal.loop-value-smaller
loop-value-smaller g c =
    g.met.S.Ascent.falls _ _ _ c.loop-value.invariant.along c.step-next.ensures (not_from_Decides _ c.is.ensures c.if-is.false)
