use Rattle.std.proofs.Common.{ap, ◌∙◌}
use Rattle.term.specs.Terms.{term_of}
use Rattle.term.proofs.Shapes.{shape_test, shape_complement, shape_ended, shape_joined}
use Rattle.term.proofs.Kinding.{examined_given, examined_bound, examined_unbound, examined_test, examined_complement, examined_ended, examined_joined}
use Rattle.term.proofs.kinds.+examine.Goals as goal

pub returns-in-Given : goal.returns-in-Given
returns-in-Given t c =
    let e = examined_given {known = c.args.known.now} c.in-Given.given (ap term_of c.in-Given.is) (c.plain.ensures.kind ∙ c.given_kind.ensures) c.plain.ensures.fault in
    record { kind = e.kind_is; fault = e.fault_is }

pub returns-in-Bound : goal.returns-in-Bound
returns-in-Bound t c =
    let e = examined_bound (ap term_of c.in-Bound.is) (c.plain-in-Bound.ensures.kind ∙ c.kind_at.ensures) c.plain-in-Bound.ensures.fault in
    record { kind = e.kind_is; fault = e.fault_is }

pub returns-in-Unbound : goal.returns-in-Unbound
returns-in-Unbound t c =
    let e = examined_unbound {known = c.args.known.now} (ap term_of c.in-Unbound.is) c.plain-in-Unbound.ensures.kind c.plain-in-Unbound.ensures.fault in
    record { kind = e.kind_is; fault = e.fault_is }

pub returns-in-Test : goal.returns-in-Test
returns-in-Test t c =
    let e = examined_test (shape_test c.in-Test.is c.deref.ensures) c.examine.ensures.kind c.examine.ensures.fault c.tested.ensures.kind c.tested.ensures.fault in
    record { kind = e.kind_is; fault = e.fault_is }

pub returns-in-Complement : goal.returns-in-Complement
returns-in-Complement t c =
    let e = examined_complement (shape_complement c.in-Complement.is c.deref-in-Complement.ensures) c.examine-in-Complement.ensures.kind c.examine-in-Complement.ensures.fault in
    record { kind = e.kind_is; fault = e.fault_is }

pub returns-in-Ended : goal.returns-in-Ended
returns-in-Ended t c =
    let e = examined_ended (shape_ended c.in-Ended.is c.deref-in-Ended.ensures) c.examine-in-Ended.ensures.kind c.examine-in-Ended.ensures.fault c.ended.ensures.kind c.ended.ensures.fault in
    record { kind = e.kind_is; fault = e.fault_is }

pub returns-in-Joined : goal.returns-in-Joined
returns-in-Joined t c =
    let e =
    examined_joined c.in-Joined.sign (shape_joined c.in-Joined.is c.deref-in-Joined.ensures c.deref-in-Joined-2.ensures) c.examine-first.ensures.kind c.examine-first.ensures.fault
    c.examine-second.ensures.kind c.examine-second.ensures.fault c.joined.ensures.kind c.joined.ensures.fault in
    record { kind = e.kind_is; fault = e.fault_is }
