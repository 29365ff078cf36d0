use Rattle.std.proofs.Common.{vec_items, sym, ap, ◌∙◌, subst}
use Rattle.sentence.specs.Machine.{name_due, first}
use Rattle.sentence.specs.Exprs.{tree_of}
use Rattle.sentence.specs.Statements.{trees_of, Stated}
use Rattle.sentence.proofs.Looking.{not_so, handed}
use Rattle.sentence.proofs.Phrases.{Grouping, grouping_first, grouping_more, grouping_stuck, grouping_done, trees_last}
use Rattle.sentence.proofs.parser.Parser.group.Goals as goal

pub loop-self-init : goal.loop-self-init
loop-self-init c =
    subst (λ x. Grouping c.args.self.sorts.now c.args.at (tree_of c.in_ok-head.head.item.tree) (trees_of x) c.in_ok-head.head.next) (sym c.new-more.ensures.items)
    (grouping_first c.args.self.sorts.now c.args.at (tree_of c.in_ok-head.head.item.tree) c.in_ok-head.head.next c.in_ok-head.ensures)

pub returns-in_err-bound : goal.returns-in_err-bound
returns-in_err-bound c =
    handed (Stated (λ p. name_due p first) c.args.self.sorts.now c.args.at) c.from_residual-in_err-bound.result c.in_err-bound.field-0.0 c.from_residual-in_err-bound.ensures
    (grouping_stuck c.args.self.sorts.now c.args.at (tree_of c.in_ok-head.head.item.tree) (trees_of (vec_items c.loop-self.more)) c.loop-self.next c.in_err-bound.field-0.0
    c.loop-self.invariant (c.stands.ensures.0 c.loop-self-test.true) c.in_err-bound.ensures)

pub loop-self-preserved : goal.loop-self-preserved
loop-self-preserved c =
    grouping_more c.args.self.sorts.now c.args.at (tree_of c.in_ok-head.head.item.tree) (trees_of (vec_items c.loop-self.more)) (trees_of (vec_items c.push.new.self)) (tree_of c.in_ok-bound.bound.item.tree) c.loop-self.next c.in_ok-bound.bound.next
    c.loop-self.invariant (c.stands.ensures.0 c.loop-self-test.true) c.in_ok-bound.ensures
    (ap trees_of c.in_ok-push.ensures.items ∙ trees_last (vec_items c.loop-self.more) c.in_ok-bound.bound.item)

pub returns : goal.returns
returns c =
    grouping_done c.args.self.sorts.now c.args.at (tree_of c.in_ok-head.head.item.tree) (trees_of (vec_items c.loop-self.more)) c.loop-self.next c.loop-self.invariant (not_so _ c.stands.ensures c.loop-self-test.false)
