use Rattle.std.proofs.Common.{rules}
use borrow.Author.Tests.{tests}
use Rattle.run.specs.Tests.{table_run}
use Rattle.run.proofs.Examined.{examined}
use Rattle.run.proofs.snapshot.Snapshot.examine.Goals as goal

pub returns : goal.returns
returns c =
    let r = c.find_map.ensures.runs in
    examined (table_run c.args.self.now.events) r.0 (search rules) (λ a b q k. search rules) (λ x b k. search (rules, tests)) c.find_map.result r.2
