-- A written record is short enough to be read. Assumes nothing.
use Rattle.std.proofs.Common.{ℕ, zero, suc, ◌+◌, ◌*◌, ◌≤◌, List, [], ◌∷◌, ◌++◌, length, sum_by, Some, None, Option, arith, length-append}
use Rattle.std.proofs.lemmas.List.Sums.{sum_by-le}
use Rattle.bench.specs.declared.action.Action.{Action}
use Rattle.bench.specs.declared.action.Action.TheVariants.{Enter, Tie, Settle}
use Rattle.run.specs.Runs.{Run}
use Rattle.record.specs.Format.{spell, spelled, end}
use Rattle.record.specs.Writing.{Stage, Entries, Ties, Settlings, call_of, also, calls_below, written, record_bytes, call_bytes}

-- a call's field has at most 12 bytes
pub spell_short : (a : Action) → length (spell a) ≤ 12
spell_short (Enter x) = omega arith
spell_short (Tie r w) = omega arith
spell_short (Settle n) = omega arith

-- the field of a call, if there is one, has at most 12 bytes
call_short : (c : Option Action) → length (call_bytes c) ≤ 12
call_short None = omega arith
call_short (Some a) = spell_short a

-- so the fields of 96 calls have at most 1,152
pub fields_short : (calls : List (Option Action)) → length calls ≤ 96 → sum_by (λ call. length (call_bytes call)) calls ≤ 1152
fields_short calls few = omega (arith, sum_by-le (λ call. length (call_bytes call)) 12 calls (λ k d l. call_short _))

-- and the fields of calls at most 12 for each
pub spelled_short : (calls : List Action) → length (spelled calls) ≤ 12 * length calls
spelled_short [] = omega arith
spelled_short (a ∷ more) = omega (arith, length-append (spell a) (spelled more), spell_short a, spelled_short more)

-- one more call is at most one more
also_few : (calls : List Action) (c : Option Action) → length (also calls c) ≤ length calls + 1
also_few calls None = omega arith
also_few calls (Some a) = omega (arith, length-append calls (a ∷ []))

-- a stage has at most one call for each number
pub calls_few : (stage : Stage) (run : Run) (n : ℕ) → length (calls_below stage run n) ≤ n
unfolding calls_below
calls_few stage run zero = omega arith
calls_few stage run (suc n) = omega (arith, also_few (calls_below stage run n) (call_of stage n (run n)), calls_few stage run n)

-- the three stages together have at most 96 calls
pub record_short : (run : Run) → length (record_bytes run) ≤ 4096
record_short run =
    let entries = calls_below Entries run 32 in
    let ties = calls_below Ties run 32 in
    let settlings = calls_below Settlings run 32 in
    omega (
      arith,
      length-append (spelled (written run)) end,
      spelled_short (written run),
      length-append entries (ties ++ settlings),
      length-append ties settlings,
      calls_few Entries run 32,
      calls_few Ties run 32,
      calls_few Settlings run 32,
    )
