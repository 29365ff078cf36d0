use Rattle.std.proofs.Common.{not, ap, ◌∙◌}
use Rattle.term.specs.Least.{lower}
use Rattle.term.proofs.Lowering.{fault_least}
use Rattle.term.proofs.kinds.unless.Goals as goal

pub returns : goal.returns
returns c = c.lower.ensures ∙ ap (λ x. lower x c.args.inside) (c.then_some.ensures ∙ fault_least (not c.args.test) c.args.place)
