use Rattle.std.proofs.Common.{rules}
use Rattle.relation.proofs.Rows.{rows_show}
use Rattle.relation.proofs.relation.Relation.product.Goals as goal

pub returns : goal.returns
returns c = rows_show _ (λ a b r. r.0.within) (λ a v l g. search rules) c.by_rows.ensures
