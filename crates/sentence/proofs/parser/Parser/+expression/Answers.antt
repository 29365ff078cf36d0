use Rattle.std.proofs.Common.{drop, Some, sym, ap, ◌∙◌}
use Rattle.sentence.specs.Looks.{first_role}
use Rattle.sentence.specs.Roles.{leaf}
use Rattle.sentence.specs.Exprs.{tree_of}
use Rattle.sentence.specs.Parsing.{Parsed}
use Rattle.sentence.specs.Seats.{seats_of}
use Rattle.sentence.proofs.Seatings.{seated_leaf, seated_inside, seated_tilde, seated_ended, seated_joined}
use Rattle.sentence.proofs.Looking.{not_so, handed}
use Rattle.sentence.proofs.Looked.{start_so}
use Rattle.sentence.proofs.Climbs.{led_leaf, stuck_start, led_prefix, fault_prefix, led_between, fault_between, stuck_between, led_post, climbing_more, fault_right}
use Rattle.sentence.proofs.parser.Parser.+expression.Goals as goal

pub atom-returns-in-None-clause-led : goal.atom-returns-in-None-clause-led
atom-returns-in-None-clause-led t c = stuck_start c.args.self.sorts.now c.args.at (sym c.start_at.ensures ∙ c.in-None.is) c.requires

pub atom-returns-in-Some-Leaf-clause-led : goal.atom-returns-in-Some-Leaf-clause-led
atom-returns-in-Some-Leaf-clause-led t c =
    led_leaf c.args.self.sorts.now c.args.at c.in-Some-Leaf.leaf
    (start_so (first_role (drop c.args.at c.args.self.sorts.now)) (leaf c.in-Some-Leaf.leaf) (sym c.start_at.ensures ∙ c.in-Some-Leaf.is ∙ ap Some c.in-Some-Leaf.field-0-is))

pub atom-returns-in-Some-Leaf-clause-seated : goal.atom-returns-in-Some-Leaf-clause-seated
atom-returns-in-Some-Leaf-clause-seated t c = seated_leaf c.args.at c.in-Some-Leaf.leaf

pub between-returns-in_err-piece-clause-led : goal.between-returns-in_err-piece-clause-led
between-returns-in_err-piece-clause-led t c =
    handed (Parsed c.args.self.sorts.now c.args.at 7 7) c.from_residual.result c.in_err-piece.field-0.0 c.from_residual.ensures
    (fault_between c.args.self.sorts.now c.args.at c.args.bracket c.in_err-piece.field-0.0 c.requires c.in_err-piece.ensures.led)

pub between-returns-in_ok-tree-clause-led : goal.between-returns-in_ok-tree-clause-led
between-returns-in_ok-tree-clause-led t c =
    led_between c.args.self.sorts.now c.args.at c.args.bracket 0 (tree_of c.in_ok-piece.piece.item) (tree_of c.in_ok-tree.tree) c.in_ok-piece.piece.next
    c.requires c.in_ok-piece.ensures.led (c.stands.ensures.0 c.if-stands.true) c.in_ok-tree.ensures.made

pub between-returns-in_ok-tree-clause-seated : goal.between-returns-in_ok-tree-clause-seated
between-returns-in_ok-tree-clause-seated t c =
    seated_inside c.args.at c.args.bracket (tree_of c.in_ok-piece.piece.item) (tree_of c.in_ok-tree.tree) (seats_of c.in_ok-piece.piece.item) (seats_of c.in_ok-tree.tree) c.in_ok-piece.piece.next
    c.in_ok-piece.ensures.seated c.in_ok-tree.ensures.made c.in_ok-tree.ensures.seats

pub between-returns-else-stands-clause-led : goal.between-returns-else-stands-clause-led
between-returns-else-stands-clause-led t c =
    stuck_between c.args.self.sorts.now c.args.at c.args.bracket 0 (tree_of c.in_ok-piece.piece.item) c.in_ok-piece.piece.next
    c.requires c.in_ok-piece.ensures.led c.in_ok-piece.ensures.halts (not_so _ c.stands.ensures c.if-stands.false)

pub ladder-returns-in_err-right-clause-led : goal.ladder-returns-in_err-right-clause-led
ladder-returns-in_err-right-clause-led t c =
    handed (Parsed c.args.self.sorts.now c.args.at c.args.rung 0) c.from_residual-in_err-right.result c.in_err-right.field-0.0 c.from_residual-in_err-right.ensures
    (fault_right c.args.self.sorts.now c.args.at c.args.rung (tree_of c.loop-sign.tree) c.loop-sign.next c.in-Some.sign c.bound.result c.in_err-right.field-0.0
    c.loop-sign.invariant.0 (sym c.infix_from.ensures ∙ c.in-Some.is) c.bound.ensures c.in_err-right.ensures.led)

pub ladder-loop-sign-preserved : goal.ladder-loop-sign-preserved
ladder-loop-sign-preserved t c = (
  climbing_more c.args.self.sorts.now c.args.at c.args.rung (tree_of c.loop-sign.tree) c.loop-sign.next c.in-Some.sign c.bound.result (tree_of c.in_ok-right.right.item) (tree_of c.in_ok-tree.tree) c.in_ok-right.right.next
      c.loop-sign.invariant.0 (sym c.infix_from.ensures ∙ c.in-Some.is) c.bound.ensures c.in_ok-right.ensures.led c.in_ok-right.ensures.halts c.in_ok-tree.ensures.made,
  seated_joined c.args.at c.in-Some.sign (tree_of c.loop-sign.tree) (tree_of c.in_ok-right.right.item) (tree_of c.in_ok-tree.tree) (seats_of c.loop-sign.tree) (seats_of c.in_ok-right.right.item) (seats_of c.in_ok-tree.tree) c.loop-sign.next c.in_ok-right.right.next
      c.loop-sign.invariant.1 c.in_ok-right.ensures.seated c.in_ok-tree.ensures.made c.in_ok-tree.ensures.seats,
)

pub postfixed-loop-sign-preserved : goal.postfixed-loop-sign-preserved
postfixed-loop-sign-preserved t c = (
  led_post c.args.self.sorts.now c.args.at (tree_of c.loop-sign.tree) (tree_of c.in_ok-tree.tree) c.loop-sign.next c.in-Some.sign c.loop-sign.invariant.0
      (sym c.post_at.ensures ∙ c.in-Some.is) c.in_ok-tree.ensures.made,
  seated_ended c.args.at (tree_of c.loop-sign.tree) (tree_of c.in_ok-tree.tree) c.in-Some.sign (seats_of c.loop-sign.tree) (seats_of c.in_ok-tree.tree) c.loop-sign.next
      c.loop-sign.invariant.1 c.in_ok-tree.ensures.made c.in_ok-tree.ensures.seats,
)

pub prefixed-returns-in_err-piece-clause-led : goal.prefixed-returns-in_err-piece-clause-led
prefixed-returns-in_err-piece-clause-led t c =
    handed (Parsed c.args.self.sorts.now c.args.at 7 6) c.from_residual.result c.in_err-piece.field-0.0 c.from_residual.ensures
    (fault_prefix c.args.self.sorts.now c.args.at c.in_err-piece.field-0.0 (c.stands.ensures.0 c.if-stands.true) c.in_err-piece.ensures.led)

pub prefixed-returns-in_ok-tree-clause-led : goal.prefixed-returns-in_ok-tree-clause-led
prefixed-returns-in_ok-tree-clause-led t c =
    led_prefix c.args.self.sorts.now c.args.at (tree_of c.in_ok-piece.piece.item) (tree_of c.in_ok-tree.tree) c.in_ok-piece.piece.next
    (c.stands.ensures.0 c.if-stands.true) c.in_ok-piece.ensures.led c.in_ok-tree.ensures.made

pub prefixed-returns-in_ok-tree-clause-seated : goal.prefixed-returns-in_ok-tree-clause-seated
prefixed-returns-in_ok-tree-clause-seated t c =
    seated_tilde c.args.at (tree_of c.in_ok-piece.piece.item) (tree_of c.in_ok-tree.tree) (seats_of c.in_ok-piece.piece.item) (seats_of c.in_ok-tree.tree) c.in_ok-piece.piece.next
    c.in_ok-piece.ensures.seated c.in_ok-tree.ensures.made c.in_ok-tree.ensures.seats
