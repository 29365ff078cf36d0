use Rattle.std.proofs.Common.{length, ◌≡◌, Bool, rules}
use borrow.Author.Tests.{tests}
use Rattle.std.specs.Fn.{FnReturnsAt}
use Rattle.std.proofs.lemmas.Iterator.{YieldsList-from_slice, cases_from_any}
use Rattle.run.specs.declared.event.Event.{Event}
use Rattle.run.proofs.Searching.{Passes, Fails, searched_table}
use Rattle.run.proofs.snapshot.Snapshot.some.Goals as goal

pub returns : goal.returns
returns g c =
    let long : length c.args.self.now.events ≡ 32 = search rules in
    let answers : Event → Bool → Type 0 = FnReturnsAt g.F.Fn c.args.test in
    searched_table answers c.args.self.now.events _ long
    (cases_from_any _ _ _ (Passes answers) (Fails answers) c.any.ensures.ran (YieldsList-from_slice c.args.self.now.events cc) (λ x q k. search (rules, tests)) (λ x q k. search (rules, tests)))
