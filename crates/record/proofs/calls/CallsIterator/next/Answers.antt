use Rattle.std.proofs.Common.{◌+◌, ◌∷◌, length, Some, None, ap, ◌∙◌, sym, arith, rules, length-drop}
use Rattle.record.specs.Reading.{calls_from}
use Rattle.record.proofs.Walks.{from_none, from_within, from_some, looked}
use Rattle.record.proofs.calls.CallsIterator.next.Goals as goal

pub returns-in_err-call-clause-steps : goal.returns-in_err-call-clause-steps
returns-in_err-call-clause-steps c =
    let bytes = c.args.self.now.bytes.now in
    let at = c.args.self.now.at in
    let over = from_none bytes at (looked bytes at c.call_at.result None c.call_at.ensures c.in_err-call.was) in
    search rules

pub invariant_of-self : goal.invariant_of-self
invariant_of-self c =
    let bytes = c.args.self.now.bytes.now in
    let at = c.args.self.now.at in
    let call = c.in_ok-call.call in
    let within = from_within bytes at call (looked bytes at c.call_at.result (Some call) c.call_at.ensures c.in_ok-call.was) in
    record { within = omega (arith, within, c.size.ensures.size, length-drop at bytes, c.args.self.now.within) }

pub returns-clause-steps : goal.returns-clause-steps
returns-clause-steps c =
    let bytes = c.args.self.now.bytes.now in
    let at = c.args.self.now.at in
    let call = c.in_ok-call.call in
    from_some bytes at call (looked bytes at c.call_at.result (Some call) c.call_at.ensures c.in_ok-call.was)
    ∙ ap (λ n. (at, call) ∷ calls_from (at + n) bytes) (sym c.size.ensures.size)

pub returns-clause-goes : goal.returns-clause-goes
returns-clause-goes c =
    let bytes = c.args.self.now.bytes.now in
    let at = c.args.self.now.at in
    let call = c.in_ok-call.call in
    let goes = from_some bytes at call (looked bytes at c.call_at.result (Some call) c.call_at.ensures c.in_ok-call.was) in
    let fewer = ap length (goes ∙ ap (λ n. (at, call) ∷ calls_from (at + n) bytes) (sym c.size.ensures.size)) in
    search rules
