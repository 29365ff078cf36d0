use Rattle.std.proofs.Common.{◌≡◌, ◌≢◌, ◌⊎◌, Bool, refl, rules}
use borrow.Author.Tests.{tests}
use Rattle.std.specs.Fn.{FnReturnsAt}
use Rattle.std.proofs.lemmas.Iterator.{YieldsList-from_range, cases_from_any}
use Rattle.run.specs.declared.event.Event.{Event}
use Rattle.run.specs.Runs.{Run, shown}
use Rattle.run.specs.Tests.{table_run}
use Rattle.run.proofs.Searching.{Passes, Fails, searched_others}
use Rattle.run.proofs.snapshot.Snapshot.some_other.Goals as goal

pub returns : goal.returns
returns g c =
    let answers : Event → Bool → Type 0 = FnReturnsAt g.F.Fn c.args.test in
    let run : Run = table_run c.args.self.now.events in
    searched_others answers run c.args.n _
    (cases_from_any _ _ _ (λ m. (m ≢ c.args.n) × Passes answers (shown run m)) (λ m. (m ≡ c.args.n) ⊎ Fails answers (shown run m)) c.any.ensures.ran (YieldsList-from_range 0 32 32 refl refl) (λ x q k. search (rules, tests)) (λ x q k. search (rules, tests)))
