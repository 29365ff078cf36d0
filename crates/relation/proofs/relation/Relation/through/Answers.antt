use Rattle.std.proofs.Common.{rules, ⊎_elim}
use Rattle.relation.proofs.Rows.{rows_show}
use Rattle.relation.specs.Steps.{through_row}
use Rattle.relation.proofs.relation.Relation.through.Goals as goal

pub returns : goal.returns
returns c =
    rows_show _ (λ a b. ⊎_elim (λ r. r.within) (λ r. r.0.within)) (λ a v l g. search (rules, through_row)) c.by_rows.ensures
