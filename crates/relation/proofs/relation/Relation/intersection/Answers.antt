use Rattle.std.proofs.Common.{rules}
use Rattle.relation.proofs.Rows.{rows_show, intersection_row}
use Rattle.relation.proofs.relation.Relation.intersection.Goals as goal

pub returns : goal.returns
returns c = rows_show _ (λ a b r. r.0.within) (λ a v l g. intersection_row c.args.self.rows c.args.other.rows a l (search rules)) c.by_rows.ensures
