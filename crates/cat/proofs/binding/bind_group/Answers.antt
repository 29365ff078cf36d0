use Rattle.std.proofs.Common.{◌+◌, vec_items, ap, ◌∙◌, arith}
use Rattle.sentence.specs.Exprs.{tree_of}
use Rattle.cat.proofs.Grouping.{ends_more, binds_first, binds_more, binds_done}
use Rattle.cat.proofs.binding.bind_group.Goals as goal

pub loop-said-preserved : goal.loop-said-preserved
loop-said-preserved c =
    let on = ap (λ n. c.loop-said.next + 3 + n) c.size-in-loop-said.ensures in (
      ends_more c.args.more.now _ c.loop-said.said-index c.loop-said.next _ c.said-item.result c.loop-said.invariant.0 c.loop-said-test.true c.said-item.is on,
      binds_more c.args.more.now _ c.loop-said.said-index c.loop-said.next _ (vec_items c.loop-said.bound) _ c.said-item.result c.loop-said.invariant.1 c.loop-said-test.true c.said-item.is
          c.in_ok-push-2.ensures.items on,
    )

pub returns : goal.returns
returns c =
    binds_done c.args.more.now _ c.loop-said.said-index c.loop-said.next (vec_items c.loop-said.bound) c.loop-said.invariant.1 c.loop-said-test.false
    ∙ binds_first c.args.more.now (vec_items c.args.bound.now) (vec_items c.push.new.self) c.args.at _ (tree_of c.args.first.now) c.in_ok-push.ensures.items (let s = c.size.ensures in omega arith)
