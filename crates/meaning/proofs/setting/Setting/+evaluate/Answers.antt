use Rattle.std.proofs.Common.{ap}
use Rattle.term.specs.Terms.{term_of}
use Rattle.term.proofs.Shapes.{shape_test, shape_complement, shape_ended, shape_joined}
use Rattle.meaning.proofs.Evaluated.{given_means, bound_means, unbound_means, test_means, complement_means, ended_means, joined_means}
use Rattle.meaning.proofs.setting.Setting.+evaluate.Goals as goal

pub returns-in-Given : goal.returns-in-Given
returns-in-Given t c = given_means _ _ _ (ap term_of c.in-Given.is) c.value.ensures

pub returns-in-Bound : goal.returns-in-Bound
returns-in-Bound t c = bound_means _ _ _ (ap term_of c.in-Bound.is) c.named.ensures

pub returns-in-Unbound : goal.returns-in-Unbound
returns-in-Unbound t c = unbound_means _ _ _ (ap term_of c.in-Unbound.is) c.pairs.ensures c.none.ensures

pub returns-in-Test : goal.returns-in-Test
returns-in-Test t c = test_means _ _ _ c.evaluate.result (shape_test c.in-Test.is c.deref.ensures) c.evaluate.ensures c.tested.ensures

pub returns-in-Complement : goal.returns-in-Complement
returns-in-Complement t c =
    complement_means _ _ _ c.evaluate-in-Complement.result (shape_complement c.in-Complement.is c.deref-in-Complement.ensures) c.evaluate-in-Complement.ensures c.outside.ensures

pub returns-in-Ended : goal.returns-in-Ended
returns-in-Ended t c = ended_means _ _ _ c.evaluate-in-Ended.result (shape_ended c.in-Ended.is c.deref-in-Ended.ensures) c.evaluate-in-Ended.ensures c.postfixed.ensures

pub returns-in-Joined : goal.returns-in-Joined
returns-in-Joined t c =
    joined_means _ _ _ c.evaluate-in-Joined.result c.evaluate-in-Joined-2.result (shape_joined c.in-Joined.is c.deref-in-Joined.ensures c.deref-in-Joined-2.ensures) c.evaluate-in-Joined.ensures c.evaluate-in-Joined-2.ensures
    c.infixed.ensures
