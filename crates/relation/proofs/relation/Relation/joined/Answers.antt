use Rattle.std.proofs.Common.{rules, refl, arith}
use Rattle.relation.specs.Masks.{Related}
use Rattle.relation.specs.Steps.{Joining, joining_none, joining_more, joining_done}
use Rattle.relation.proofs.Folds.{fold_events}
use Rattle.relation.proofs.relation.Relation.joined.Goals as goal

pub returns : goal.returns
returns c =
    joining_done 32 (omega arith)
    (fold_events _ (λ n whole. Joining n (Related c.args.self.rows) whole.rows) _ (λ n a b f k. search rules)
    (λ n a b f l i k. joining_more n (Related c.args.self.rows) l i (search rules))
    _ _ _ refl (joining_none _) c.fold.ensures.ran)
