use Rattle.std.proofs.Common.{rules}
use borrow.Author.Tests.{tests}
use Rattle.run.proofs.Copies.{copied_all}
use Rattle.run.proofs.snapshot.Snapshot.of.Goals as goal

pub returns : goal.returns
returns g c = copied_all _ _ (g.S.RunSource.standing c.args.source.now) (λ k o q h. search (rules, tests)) c.from_fn.result c.from_fn.ensures.items
