use Rattle.std.proofs.Common.{◌≡◌, Bool, length, refl, ◌∙◌, Bor, rules}
use Rattle.std.proofs.lemmas.Fn.{says_at}
use Rattle.std.proofs.lemmas.Iterator.{YieldsList-from_slice}
use Rattle.std.proofs.lemmas.Iterator.Consumers.{YieldsList-from_filter, count_from_yields_List}
use Rattle.std.proofs.lemmas.List.Sums.{length-filter}
use Rattle.run.specs.declared.event.Event.{Event}
use Rattle.run.specs.Tests.{holds}
use Rattle.summary.proofs.Marks.{counted}
use Rattle.summary.proofs.count.Goals as goal

pub returns : goal.returns
returns g c =
    λ mark is.
    let events = c.args.events.now.events in
    let long : length events ≡ 32 = search rules in
    let told : (y : Bor Event) (r : Bool) → g.F.Fn.post c.args.has_mark (y, tt) r → r ≡ mark y.now = λ y r p. is y.now r (says_at g.F.Fn p refl) in
    let found =
    count_from_yields_List _ _ c.count.ensures.ran
    (YieldsList-from_filter _ (λ o. holds o mark) (YieldsList-from_slice events (cc)) c.filter-marked.ensures.closure (λ x b q k. search (rules, told)))
    in counted mark events _ long (found ∙ length-filter (λ o. holds o mark) events)
