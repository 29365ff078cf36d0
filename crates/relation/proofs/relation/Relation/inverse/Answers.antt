use Rattle.std.proofs.Common.{rules}
use Rattle.relation.proofs.Rows.{rows_show}
use Rattle.relation.proofs.relation.Relation.inverse.Goals as goal

pub returns : goal.returns
returns c = rows_show _ (λ a b r. r.there.within) (λ a v l g. search rules) c.by_rows.ensures
