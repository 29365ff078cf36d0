use Rattle.std.proofs.Common.{◌≡◌, ◌&&◌, ◌||◌, ap, ◌∙◌}
use Rattle.term.specs.Terms.{term_of}
use Rattle.term.specs.Recursion.{of_group, denies_right}
use Rattle.term.proofs.Lowering.{fault_least}
use Rattle.term.proofs.Shapes.{shape_complement, shape_joined}
use Rattle.term.proofs.Counting.{true_both, false_both, true_either, false_either, denied_none, denied_bound, denied_inside, denied_complement, denied_joined}
use Rattle.term.proofs.recursion.+denied.Goals as goal
use Rattle.term.proofs.recursion.+denied.Goals.{then-under, else-under, then-under-2, else-under-2}

pub returns-in-Given : goal.returns-in-Given
returns-in-Given t c = denied_none c.args.group.first c.args.group.many c.args.under c.in-Given.is

pub returns-in-Given-2 : goal.returns-in-Given-2
returns-in-Given-2 t c = denied_none c.args.group.first c.args.group.many c.args.under c.in-Given.is

pub returns-after-under : goal.returns-after-under
returns-after-under t c =
    let here : c.if-under.then_some ≡ (c.args.under && of_group c.args.group.first c.args.group.many c.in-Bound.number) =
    elim c.if-under.branch [ then-under w ↦ w.then_some-is ∙ w.has.ensures ∙ true_both c.args.under _ w.if-under.true | else-under w ↦ w.then_some-is ∙ false_both c.args.under _ w.if-under.false ] in
    denied_bound c.args.group.first c.args.group.many c.args.under c.if-under.then_some (ap term_of c.in-Bound.is) here (c.then_some.ensures ∙ fault_least c.if-under.then_some c.in-Bound.place)

pub returns-in-Test : goal.returns-in-Test
returns-in-Test t c = denied_inside c.args.group.first c.args.group.many c.args.under c.in-Test.is c.deref-in-Test.ensures c.denied-in-Test.ensures

pub returns-in-Complement : goal.returns-in-Complement
returns-in-Complement t c = denied_complement c.args.group.first c.args.group.many c.args.under (shape_complement c.in-Complement.is c.deref.ensures) c.denied.ensures

pub returns-after-under-2 : goal.returns-after-under-2
returns-after-under-2 t c =
    let over : c.if-under-2.denied ≡ (c.args.under || denies_right c.in-Joined.sign) =
    elim c.if-under-2.branch [ then-under-2 w ↦ w.denied-is ∙ true_either c.args.under _ w.if-under-2.true | else-under-2 w ↦ w.denied-is ∙ w.denies_right.ensures ∙ false_either c.args.under _ w.if-under-2.false ] in
    denied_joined c.args.group.first c.args.group.many c.args.under c.in-Joined.sign c.if-under-2.denied (shape_joined c.in-Joined.is c.deref-in-Joined.ensures c.deref-in-Joined-2.ensures) over c.lower.ensures
    c.denied-in-Joined.ensures c.denied-in-Joined-2.ensures
