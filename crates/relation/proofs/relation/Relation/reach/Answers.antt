use Rattle.relation.specs.Reaching.{reach_done}
use Rattle.relation.proofs.relation.Relation.reach.Goals as goal

pub returns : goal.returns
returns c = reach_done _ _ c.climb.ensures
