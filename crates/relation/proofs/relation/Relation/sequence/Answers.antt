use Rattle.std.proofs.Common.{rules, refl, arith}
use Rattle.relation.specs.Masks.{Related, Shows}
use Rattle.relation.specs.Steps.{Through, through_none, through_more, through_done}
use Rattle.relation.proofs.Folds.{fold_events}
use Rattle.relation.proofs.relation.Relation.sequence.Goals as goal

pub returns : goal.returns
returns c =
    through_done 32 c.args.self.rows c.args.other.rows (omega arith)
    (fold_events _ (λ n whole. Shows whole.rows (Through n (Related c.args.self.rows) (Related c.args.other.rows))) _ (λ n a b f k. search rules)
    (λ n a b f l i k. through_more n c.args.self.rows c.args.other.rows l i (search rules))
    _ _ _ refl (through_none _ _ c.none.ensures) c.fold.ensures.ran)
