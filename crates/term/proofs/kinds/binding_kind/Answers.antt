use Rattle.std.proofs.Common.{ap, ◌∙◌}
use Rattle.term.specs.Kinds.{as_relation}
use Rattle.term.proofs.Kinding.{unless_least}
use Rattle.term.proofs.kinds.binding_kind.Goals as goal

pub returns : goal.returns
returns c = unless_least _ _ _ _ c.unless.ensures (c.as_relation.ensures ∙ ap as_relation c.examine-found.ensures.kind) c.examine-found.ensures.fault
