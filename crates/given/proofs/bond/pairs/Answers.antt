use Rattle.std.proofs.Common.{rules}
use Rattle.given.proofs.bond.pairs.Goals as goal

pub returns : goal.returns
returns g c = record { long = c.by_rows.ensures.long; each = λ a lt. let given = c.by_rows.ensures.each a lt in search rules }
