use Rattle.relation.proofs.Rows.{nothing_shows}
use Rattle.relation.proofs.relation.Relation.none.Goals as goal

pub returns : goal.returns
returns c = nothing_shows
