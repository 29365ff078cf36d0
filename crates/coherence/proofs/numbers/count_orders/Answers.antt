use Rattle.std.proofs.Common.{◌≡◌, min, refl, sym, ◌∙◌, subst, rules}
use Rattle.std.proofs.lemmas.Iterator.{YieldsList-from_range}
use Rattle.std.proofs.lemmas.Iterator.Consumers.{fold_from_yields_List}
use Rattle.run.specs.Tests.{table_run}
use Rattle.coherence.specs.Numbers.{product}
use Rattle.coherence.specs.Digits.{ways}
use Rattle.coherence.specs.Answers.{Told}
use Rattle.coherence.proofs.Told.{times, product_folded, told}
use Rattle.coherence.proofs.numbers.count_orders.Goals as goal

pub overflow_cast-total : goal.overflow_cast-total
overflow_cast-total c =
    let total : c.fold-total.result ≡ min (product (ways (table_run c.args.events.now.events)) 16) 5041 =
    fold_from_yields_List _ (times (table_run c.args.events.now.events)) 1 _ c.fold-total.ensures.ran (YieldsList-from_range 0 16 16 refl refl) (λ a x b q h. search rules)
    ∙ product_folded (table_run c.args.events.now.events) 16 in
    search rules

pub returns : goal.returns
returns c =
    let total : c.fold-total.result ≡ min (product (ways (table_run c.args.events.now.events)) 16) 5041 =
    fold_from_yields_List _ (times (table_run c.args.events.now.events)) 1 _ c.fold-total.ensures.ran (YieldsList-from_range 0 16 16 refl refl) (λ a x b q h. search rules)
    ∙ product_folded (table_run c.args.events.now.events) 16 in
    subst (Told (table_run c.args.events.now.events)) (sym c.then_some.ensures) (told (table_run c.args.events.now.events) c.fold-total.result total)
