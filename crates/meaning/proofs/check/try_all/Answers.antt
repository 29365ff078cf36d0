use Rattle.std.proofs.Common.{length, map, refl, arith, rules, tests}
use Rattle.std.proofs.lemmas.Iterator.{YieldsList-from_slice, YieldsList-from_range, YieldsList-from_zip}
use Rattle.std.proofs.lemmas.Iterator.Consumers.{YieldsList-at, YieldsList-turn, YieldsList-end}
use Rattle.term.specs.Statements.{claim_of}
use Rattle.given.specs.Bases.{base_meaning}
use Rattle.meaning.specs.Tables.{value_meaning}
use Rattle.meaning.specs.Outcomes.{Good}
use Rattle.meaning.proofs.Chains.{picked_road}
use Rattle.meaning.proofs.Tallying.{claim_at, Turn, turn_at, tried_more, tried_all}
use Rattle.meaning.proofs.check.try_all.Goals as goal
use Rattle.meaning.proofs.check.try_all.Goals.{In-Some}

-- which check this turn has
turned : (c : goal.In-Some) → Turn c.args.statements.now (length c.loop-number.yielded) c.in-Some.number (claim_of c.in-Some.check.now)
turned c =
    let ss = c.args.statements.now in
    turn_at ss (length c.loop-number.yielded) c.in-Some.number (claim_of c.in-Some.check.now)
    (YieldsList-turn
    (YieldsList-at c.into_iter-number-iterator.ensures.into_iter_gives
    (YieldsList-from_zip {s = c.zip-number-items.result} (YieldsList-from_range 0 16 16 c.zip-number-items.ensures.first refl)
    (YieldsList-at c.zip-number-items.ensures.second
    (picked_road _ (λ y. y.now) _ (λ r. claim_of r.now) claim_at _ (λ x r q k. search (rules, tests)) ss (YieldsList-at c.filter_map-checks.ensures.source (YieldsList-from_slice ss c.iter.ensures.rest))
    c.filter_map-checks.ensures.closure))))
    c.loop-number.yielded _ c.loop-number.yielded_by _ _ (c.in-Some.number, c.in-Some.check) c.in-Some.is c.next.ensures.steps)

pub loop-number-preserved : goal.loop-number-preserved
loop-number-preserved c =
    tried_more (Good (base_meaning c.args.setting.now.base.now) (map value_meaning c.args.setting.now.known.now)) c.args.statements.now c.loop-number.yielded (c.in-Some.number, c.in-Some.check) c.in-Some.number (claim_of c.in-Some.check.now) c.loop-number.outcome c.with-outcome.result c.is_flag.result c.holds.result
    (turned (goal.at.loop-number-preserved c).In-Some) c.is_flag.ensures c.holds.ensures c.with-outcome.ensures.failure c.with-outcome.ensures.flags c.loop-number.invariant

pub with-outcome-requires : goal.with-outcome-requires
with-outcome-requires c = let t = turned (goal.at.with-outcome-requires c).In-Some in omega (arith, t.same, t.few)

pub returns : goal.returns
returns c =
    let ss = c.args.statements.now in
    tried_all (Good (base_meaning c.args.setting.now.base.now) (map value_meaning c.args.setting.now.known.now)) ss c.loop-number.yielded c.loop-number.outcome
    ((YieldsList-end
    (YieldsList-at c.into_iter-number-iterator.ensures.into_iter_gives
    (YieldsList-from_zip {s = c.zip-number-items.result} (YieldsList-from_range 0 16 16 c.zip-number-items.ensures.first refl)
    (YieldsList-at c.zip-number-items.ensures.second
    (picked_road _ (λ y. y.now) _ (λ r. claim_of r.now) claim_at _ (λ x r q k. search (rules, tests)) ss (YieldsList-at c.filter_map-checks.ensures.source (YieldsList-from_slice ss c.iter.ensures.rest))
    c.filter_map-checks.ensures.closure))))
    c.loop-number.yielded _ c.loop-number.yielded_by _ _ c.in-None.is c.next.ensures.steps).1)
    c.loop-number.invariant
