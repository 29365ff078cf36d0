use Rattle.std.proofs.Common.{rules}
use Rattle.relation.proofs.Rows.{rows_show}
use Rattle.relation.proofs.Gathered.{range_as, Leading, leading_row, leading}
use Rattle.relation.proofs.relation.Relation.column.Goals as goal

pub returns : goal.returns
returns c =
    range_as (Leading c.args.self.rows c.args.event) _ (leading _ _)
    (rows_show _ (λ a b r. r.0.within) (λ a v l g. search (rules, leading_row)) c.by_rows.ensures)
    c.range.ensures
