use Rattle.std.proofs.Common.{◌≡◌, ◌≤◌, ℕ, length, ap, ◌∙◌, arith, rules}
use Rattle.std.proofs.lemmas.Iterator.{YieldsList-from_map}
use Rattle.std.proofs.lemmas.Iterator.Consumers.{YieldsList-from_first, sum_by_from_yields_List, fits_by_from_yields_list}
use Rattle.bench.specs.declared.action.Action.{Action}
use Rattle.record.specs.Format.{spell}
use Rattle.record.specs.Left.{left}
use Rattle.record.specs.Reading.{calls_of, behind}
use Rattle.record.proofs.Walks.{walk_within}
use Rattle.record.proofs.read.behind.Goals as goal

pub sum-requires-clause-fits : goal.sum-requires-clause-fits
sum-requires-clause-fits c =
    let calls = calls_of c.args.bytes.now in
    let size = λ (call : ℕ × Action). length (spell call.1) in
    let within : behind calls ≤ length c.args.bytes.now = walk_within (length c.args.bytes.now) 0 c.args.bytes.now in
    fits_by_from_yields_list size calls c.map.result 18446744073709551616
    (YieldsList-from_map _ size (YieldsList-from_first (λ call. call) left calls (ap left c.map.ensures.source ∙ c.of.ensures)) c.map.ensures.closure (λ x r q k. search rules))
    (search rules)

pub returns : goal.returns
returns c =
    let calls = calls_of c.args.bytes.now in
    let size = λ (call : ℕ × Action). length (spell call.1) in
    let within : behind calls ≤ length c.args.bytes.now = walk_within (length c.args.bytes.now) 0 c.args.bytes.now in
    let place : c.sum.result ≡ behind calls =
    sum_by_from_yields_List size calls c.map.result c.sum.result c.sum.ensures.ran
    (YieldsList-from_map _ size (YieldsList-from_first (λ call. call) left calls (ap left c.map.ensures.source ∙ c.of.ensures)) c.map.ensures.closure (λ x r q k. search rules))
    in record { place = place; within = omega arith }
