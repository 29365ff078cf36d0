use Rattle.std.proofs.Common.{◌≡◌, true, false, rules}
use borrow.Author.Tests.{tests}
use Rattle.std.proofs.lemmas.Iterator.{first_from_Range}
use Rattle.run.specs.Runs.{Run, shown}
use Rattle.run.specs.Tests.{table_run, holds, broken}
use Rattle.run.proofs.Searching.{lowest_shown}
use Rattle.run.proofs.snapshot.Snapshot.lowest_broken.Goals as goal

pub returns : goal.returns
returns c =
    let run : Run = table_run c.args.self.now.events in
    lowest_shown run (broken c.args.rule run) _
    (first_from_Range _ _ _ _ (λ k. holds (shown run k) (broken c.args.rule run k) ≡ true) (λ k. holds (shown run k) (broken c.args.rule run k) ≡ false) c.find.ensures.ran (λ x q k. search (rules, tests)) (λ x q k. search (rules, tests)))
