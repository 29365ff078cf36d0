use Rattle.std.proofs.Common.{ℕ, ◌^◌, ◌<◌, get_or, rules}
use Rattle.given.proofs.Ordered.{reordered}
use Rattle.given.proofs.base.Base.with_order.Goals as goal

pub returns : goal.returns
returns c =
    let fits : (a : ℕ) → get_or c.args.order.rows a 0 < 2 ^ 32 = λ a. search rules in
    reordered c.args.self c.args.order.rows _ fits (search rules)
