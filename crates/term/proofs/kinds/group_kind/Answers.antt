use Rattle.std.proofs.Common.{sym, ◌∙◌, rules, tests}
use Rattle.std.proofs.lemmas.Iterator.{YieldsList-from_slice}
use Rattle.std.proofs.lemmas.Iterator.Adapters.{option_map_id}
use Rattle.std.proofs.lemmas.Iterator.Consumers.{YieldsList-from_filter_map, min_from_yields_List}
use Rattle.term.specs.Least.{least}
use Rattle.term.specs.Statements.{binding_of}
use Rattle.term.specs.Kinds.{binding_kinds}
use Rattle.term.proofs.Kinding.{group_least}
use Rattle.term.proofs.kinds.group_kind.Goals as goal

pub returns : goal.returns
returns c =
    group_least c.args.known.now c.args.bindings.now
    (sym (option_map_id c.min.result)
    ∙ min_from_yields_List _ _ c.min.ensures.ran (YieldsList-from_filter_map _ (λ b. least (binding_kinds c.args.known.now (binding_of b))) (YieldsList-from_slice c.args.bindings.now cc) c.filter_map.ensures.closure (λ x r q k. search (rules, tests))))
