use Rattle.std.proofs.Common.{rules}
use Rattle.relation.proofs.Rows.{rows_show, complement_row}
use Rattle.relation.proofs.relation.Relation.complement.Goals as goal

pub returns : goal.returns
returns c = rows_show _ (λ a b r. r.0.within) (λ a v l g. search (rules, complement_row)) c.by_rows.ensures
