use Rattle.std.proofs.Common.{take}
use Rattle.meaning.proofs.Knowing.{Putting}
use Rattle.meaning.proofs.bindings.put.Given as goal

abbrev pub invariant-loop-relation : goal.invariant-loop-relation
invariant-loop-relation l = Putting l.initial.values l.values (take l.relation-index l.found)
