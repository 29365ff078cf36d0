use Rattle.std.proofs.Common.{arith}
use Rattle.relation.specs.Relations.{Union}
use Rattle.meaning.specs.Systems.{Table, Body}
use Rattle.meaning.proofs.Placed.{filling_more, union_as}
use Rattle.meaning.proofs.solving.SolvingAscent.step.Goals as goal

pub loop-slot-preserved : goal.loop-slot-preserved
loop-slot-preserved g c =
    let old = Table c.args.self.now.found in
    filling_more c.loop-slot.slot c.args.self.now.found c.loop-slot.found c.union.result (λ i. Union (old i) (Body (g.E.Equations.system c.args.self.now.equations) old i)) (omega (arith, c.loop-slot-test.true, c.count-slot-end.ensures))
    c.loop-slot.invariant (union_as c.union.ensures c.value.ensures)
