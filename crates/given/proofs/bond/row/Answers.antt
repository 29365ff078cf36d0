use Rattle.std.proofs.Common.{rules}
use Rattle.given.proofs.Bonded.{row_some}
use Rattle.given.proofs.bond.row.Goals as goal

pub returns-in-Some : goal.returns-in-Some
returns-in-Some g c = row_some _ _ c.args.number c.in-Some.event _ c.in-Some.is (λ f b h. search rules) c.gather.ensures
