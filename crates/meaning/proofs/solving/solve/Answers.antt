use Rattle.meaning.specs.declared.equations.Group.{Group}
use Rattle.meaning.proofs.Ended.{solving_done}
use Rattle.meaning.proofs.solving.solve.Goals as goal

pub returns : goal.returns
returns c = rw c.none.ensures.equations at (solving_done {E = Group} _ c.none.result c.climb.result c.climb.ensures)
