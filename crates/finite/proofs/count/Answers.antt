use Rattle.std.proofs.Common.{◌≤◌, ℕ, Bool, cond, length, rules, tests}
use Rattle.std.specs.List.{count_by}
use Rattle.std.proofs.lemmas.List.Sums.{count_by-le-length}
use Rattle.std.proofs.lemmas.Iterator.{YieldsList-from_map, YieldsList-from_slice}
use Rattle.std.proofs.lemmas.Iterator.Consumers.{sum_by_from_yields_List, fits_by_from_yields_list}
use Rattle.finite.proofs.Counts.{count_flags}
use Rattle.finite.proofs.count.Goals as goal

-- what a flag adds to the sum
abbrev one : Bool → ℕ
one flag = cond flag 1 0

pub sum-requires-clause-fits : goal.sum-requires-clause-fits
sum-requires-clause-fits c =
    let flags = c.args.flags.now in
    let few : count_by (λ x. x) flags ≤ length flags = count_by-le-length (λ x. x) flags in
    fits_by_from_yields_list one flags c.map.result 18446744073709551616
    (YieldsList-from_map _ one (YieldsList-from_slice flags cc) c.map.ensures.closure (λ x r q k. search (rules, tests)))
    (search rules)

pub returns : goal.returns
returns c =
    let flags = c.args.flags.now in
    count_flags flags
    (sum_by_from_yields_List one flags c.map.result c.sum.result c.sum.ensures.ran
    (YieldsList-from_map _ one (YieldsList-from_slice flags cc) c.map.ensures.closure (λ x r q k. search (rules, tests))))
