use Rattle.relation.specs.Relations.{Union}
use Rattle.meaning.specs.Systems.{Table, Body}
use Rattle.meaning.proofs.Placed.{Filling}
use Rattle.meaning.proofs.solving.SolvingAscent.step.Given as goal

abbrev pub invariant-loop-slot : goal.invariant-loop-slot
invariant-loop-slot g l = Filling l.slot l.self.found l.found (λ i. Union (Table l.self.found i) (Body (g.E.Equations.system l.equations) (Table l.self.found) i))
