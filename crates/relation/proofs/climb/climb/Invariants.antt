use Rattle.relation.proofs.Climbing.{Climbing}
use Rattle.relation.proofs.climb.climb.Given as goal

abbrev pub invariant-loop-value : goal.invariant-loop-value
invariant-loop-value g l = Climbing g.S.Ascent.begins g.S.Ascent.steps g.S.Ascent.below g.S.Ascent.solves g.S.Ascent.along l.problem l.value

abbrev pub decreases-loop-value : goal.decreases-loop-value
decreases-loop-value g l = g.S.Ascent.height l.value
