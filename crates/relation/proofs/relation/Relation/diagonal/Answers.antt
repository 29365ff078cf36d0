use Rattle.std.proofs.Common.{rules}
use Rattle.relation.proofs.Rows.{rows_show}
use Rattle.relation.proofs.Gathered.{range_as, Looping, leading_row, looping}
use Rattle.relation.proofs.relation.Relation.diagonal.Goals as goal

pub returns : goal.returns
returns c =
    range_as (Looping c.args.self.rows) _ (looping _)
    (rows_show _ (λ a b r. r.0.within) (λ a v l g. search (rules, leading_row)) c.by_rows.ensures)
    c.range.ensures
