use Rattle.std.proofs.Common.{◌+◌, ◌++◌, length, vec_items}
use Rattle.sentence.specs.Exprs.{tree_of}
use Rattle.sentence.specs.Statements.{trees_of}
use Rattle.sentence.specs.Trees.{spell_binding, spell_more}
use Rattle.cat.specs.Resolving.{group_tokens}
use Rattle.cat.proofs.Grouping.{Ends, BindsOn}
use Rattle.cat.proofs.binding.bind_group.Given as goal

abbrev pub invariant-loop-said : goal.invariant-loop-said
invariant-loop-said l =
    Ends l.more (l.at + length (spell_binding (tree_of l.first)) + length (spell_more (trees_of l.more))) l.said-index l.next
    × BindsOn l.more (vec_items l.initial.bound ++ group_tokens (l.initial.next + 1) (trees_of l.more)) l.said-index l.next (vec_items l.bound)
