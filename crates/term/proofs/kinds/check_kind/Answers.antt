use Rattle.std.proofs.Common.{ap, ◌∙◌}
use Rattle.term.specs.Kinds.{takes}
use Rattle.term.proofs.Kinding.{unless_least}
use Rattle.term.proofs.kinds.check_kind.Goals as goal

pub returns : goal.returns
returns c = unless_least _ _ _ _ c.unless.ensures (c.takes.ensures ∙ ap (takes c.args.check.now.word) c.examine-found.ensures.kind) c.examine-found.ensures.fault
