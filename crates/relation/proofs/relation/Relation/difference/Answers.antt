use Rattle.std.proofs.Common.{rules}
use Rattle.relation.proofs.Rows.{rows_show, difference_row}
use Rattle.relation.proofs.relation.Relation.difference.Goals as goal

pub returns : goal.returns
returns c = rows_show _ (λ a b r. r.0.within) (λ a v l g. difference_row c.args.self.rows c.args.other.rows a l (search rules)) c.by_rows.ensures
