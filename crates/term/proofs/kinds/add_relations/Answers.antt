use Rattle.std.proofs.Common.{rules, tests}
use Rattle.std.proofs.lemmas.Iterator.{YieldsList-from_slice, YieldsList-from_map}
use Rattle.std.proofs.lemmas.Iterator.Adapters.{items_from_extend}
use Rattle.term.specs.declared.statement.Binding.{Binding}
use Rattle.term.specs.Kinds.{relation}
use Rattle.term.proofs.kinds.add_relations.Goals as goal

pub returns : goal.returns
returns c =
    let h = items_from_extend c.extend.result c.extend.ensures.ran (YieldsList-from_map _ (λ (b : Binding). relation) (YieldsList-from_slice c.args.bindings.now cc) c.map.ensures.closure (λ x r q k. search (rules, tests))) in
    search rules
