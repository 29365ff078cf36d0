use Rattle.std.proofs.Common.{sym, ◌∙◌, rules, tests}
use Rattle.std.proofs.lemmas.Iterator.{YieldsList-from_slice}
use Rattle.std.proofs.lemmas.Iterator.Adapters.{option_map_id}
use Rattle.std.proofs.lemmas.Iterator.Consumers.{YieldsList-from_filter_map, min_from_yields_List}
use Rattle.term.specs.Least.{least}
use Rattle.term.specs.Statements.{statement_of}
use Rattle.term.specs.Names.{statement_names}
use Rattle.term.proofs.Lowering.{lowest_is}
use Rattle.term.proofs.Naming.{names_least}
use Rattle.term.proofs.names.name_fault.Goals as goal

pub returns : goal.returns
returns c =
    let e =
    names_least c.args.statements.now
    (sym (option_map_id c.min.result)
    ∙ min_from_yields_List _ _ c.min.ensures.ran (YieldsList-from_filter_map _ (λ s. least (statement_names (statement_of s))) (YieldsList-from_slice c.args.statements.now cc) c.filter_map.ensures.closure (λ x r q k. search (rules, tests)))) in
    record { lowest = lowest_is _ e; least = e }
