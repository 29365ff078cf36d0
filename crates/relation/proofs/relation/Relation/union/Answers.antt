use Rattle.std.proofs.Common.{rules, ⊎_elim}
use Rattle.relation.proofs.Rows.{rows_show, union_row}
use Rattle.relation.proofs.relation.Relation.union.Goals as goal

pub returns : goal.returns
returns c = rows_show _ (λ a b. ⊎_elim (λ r. r.within) (λ r. r.within)) (λ a v l g. union_row c.args.self.rows c.args.other.rows a l (search rules)) c.by_rows.ensures
