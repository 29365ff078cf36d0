use Rattle.std.proofs.Common.{[], ◌∷◌, ◌++◌, vec_items, sym, ap, ◌∙◌, arith}
use Rattle.sentence.specs.Exprs.{tree_of}
use Rattle.cat.specs.Placing.{tokens_of, bound_of}
use Rattle.cat.proofs.Grouping.{ends_more, ends_done, groups_first, groups_more, groups_done}
use Rattle.cat.proofs.scope.Scope.group.Goals as goal

pub loop-said-init : goal.loop-said-init
loop-said-init c =
    let head = c.in_ok-head.ensures in
    let slice = c.as_slice.ensures.value in (
      (let n = head.next in omega arith),
      groups_first (tokens_of c.args.self.now) (bound_of c.args.self.now) c.args.more.now c.args.at _ (tree_of c.args.first.now) c.as_slice.result.now (vec_items c.push.new.self) (vec_items c.new-found.result)
          (vec_items c.push-2.new.self) c.in_ok-head.head.item (slice ∙ c.new-before.ensures.items) (c.in_ok-push.ensures.items ∙ ap (λ x. x ++ (c.args.at ∷ [])) (sym slice)) c.new-found.ensures.items
          c.in_ok-push-2.ensures.items head.binding head.next,
    )

pub loop-said-preserved : goal.loop-said-preserved
loop-said-preserved c =
    let one = c.in_ok-one.ensures in (
      ends_more c.args.more.now _ c.loop-said.said-index c.loop-said.next _ c.said-item.result c.loop-said.invariant.0 c.loop-said-test.true c.said-item.is (let n = one.next in omega (arith, n)),
      groups_more (tokens_of c.args.self.now) (bound_of c.args.self.now) c.args.more.now _ c.loop-said.said-index c.loop-said.next _ (vec_items c.loop-said.before) _ (vec_items c.loop-said.found) _ c.said-item.result
          c.in_ok-one.one.item c.as_slice-in-loop-said.result.now c.loop-said.invariant.1 c.loop-said-test.true c.said-item.is c.in_ok-push-3.ensures.items c.in_ok-push-4.ensures.items
          c.as_slice-in-loop-said.ensures.value one.binding one.next,
    )

pub returns : goal.returns
returns c =
    record {
      bindings = groups_done (tokens_of c.args.self.now) (bound_of c.args.self.now) c.args.more.now _ c.loop-said.said-index c.loop-said.next (vec_items c.loop-said.before) (vec_items c.loop-said.found) c.loop-said.invariant.1 c.loop-said-test.false;
      next = ends_done c.args.more.now _ c.loop-said.said-index c.loop-said.next c.loop-said.invariant.0 c.loop-said-test.false;
    }
