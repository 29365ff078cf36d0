use Rattle.std.proofs.Common.{rules, get_or, sym, refl, ap, ◌∙◌, tests}
use Rattle.std.specs.Option.{unwrap_or}
use Rattle.std.proofs.lemmas.Option.{unwrap_or-slice_get}
use Rattle.std.proofs.lemmas.Iterator.{YieldsList-from_range}
use Rattle.std.proofs.lemmas.Iterator.Adapters.{option_map_id}
use Rattle.std.proofs.lemmas.Iterator.Consumers.{nth_from_yields_List, YieldsList-from_filter}
use Rattle.coherence.specs.Masks.{has}
use Rattle.coherence.proofs.Rows.{those_filter}
use Rattle.coherence.proofs.mask.select.Goals as goal

pub returns-clause-found : goal.returns-clause-found
returns-clause-found c =
    let found = nth_from_yields_List _ _ c.args.place c.nth.ensures.ran (YieldsList-from_filter _ (has c.args.mask) (YieldsList-from_range 0 32 32 c.filter.ensures.source refl) c.filter.ensures.closure (λ x r q k. search (rules, tests))) in
    c.unwrap_or.ensures ∙ ap (λ o. unwrap_or o 0) (sym (option_map_id c.nth.result) ∙ found) ∙ unwrap_or-slice_get _ c.args.place 0 ∙ ap (λ xs. get_or xs c.args.place 0) (sym (those_filter (has c.args.mask) 32))
