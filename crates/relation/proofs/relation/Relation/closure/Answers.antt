use Rattle.relation.specs.Closings.{closing_done}
use Rattle.relation.proofs.relation.Relation.closure.Goals as goal

pub returns : goal.returns
returns c = closing_done _ _ c.climb.ensures
