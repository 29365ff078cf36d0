use Rattle.std.proofs.Common.{rules}
use Rattle.relation.proofs.Rows.{rows_show, identity_row}
use Rattle.relation.proofs.relation.Relation.identity.Goals as goal

pub returns : goal.returns
returns c = rows_show _ (λ a b r. r.0.within) (λ a v l g. search (rules, identity_row)) c.by_rows.ensures
