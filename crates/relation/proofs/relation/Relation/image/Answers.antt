use Rattle.std.proofs.Common.{rules}
use Rattle.relation.proofs.Rows.{rows_show}
use Rattle.relation.proofs.Gathered.{range_as, Chosen, chosen_row, chosen}
use Rattle.relation.proofs.relation.Relation.image.Goals as goal

pub returns : goal.returns
returns c =
    range_as (Chosen c.args.self.rows c.args.events) _ (chosen _ _)
    (rows_show _ (λ a b r. r.1.within) (λ a v l g. chosen_row c.args.self.rows c.args.events a l (search rules)) c.by_rows.ensures)
    c.range.ensures
