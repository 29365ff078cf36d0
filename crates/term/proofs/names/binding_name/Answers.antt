use Rattle.std.proofs.Common.{◌∙◌}
use Rattle.term.proofs.Lowering.{least_both, fault_least}
use Rattle.term.proofs.names.binding_name.Goals as goal

pub returns : goal.returns
returns c = least_both _ _ c.lower.ensures (c.then_some.ensures ∙ fault_least c.args.binding.now.taken c.args.binding.now.token) c.unbound.ensures
