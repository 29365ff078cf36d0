use Rattle.std.proofs.Common.{◌+◌, [], ◌∷◌, length, vec_items}
use Rattle.sentence.specs.Exprs.{tree_of}
use Rattle.sentence.specs.Statements.{trees_of}
use Rattle.sentence.specs.Trees.{spell_binding, spell_more}
use Rattle.cat.specs.Resolving.{resolve_group}
use Rattle.cat.specs.Placing.{tokens_of, bound_of}
use Rattle.cat.proofs.Grouping.{Ends, GroupsOn}
use Rattle.cat.proofs.scope.Scope.group.Given as goal

abbrev pub invariant-loop-said : goal.invariant-loop-said
invariant-loop-said l =
    Ends l.more (l.at + length (spell_binding (tree_of l.first)) + length (spell_more (trees_of l.more))) l.said-index l.next
    × GroupsOn (tokens_of l.self) (bound_of l.self) l.more (resolve_group (tokens_of l.self) (bound_of l.self) [] l.at (tree_of l.first ∷ trees_of l.more)) l.said-index l.next (vec_items l.before) (vec_items l.found)
