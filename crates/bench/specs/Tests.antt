-- What a bench keeps and refuses, as tests that compute, for the code. proofs/ ties each to its rule. Assumes nothing.
use Rattle.std.specs.Prelude.{◌≡◌, ℕ, ◌<◌, Bool, false, cond, not, ◌&&◌, ◌||◌, is_some, Some, None, Ok, Err, Option, Result, ◌==◌, nat_lt}
use Rattle.run.specs.declared.event.Event.{Event}
use Rattle.run.specs.declared.rule.Rule.{Rule}
use Rattle.run.specs.declared.rule.Rule.TheVariants.{Steps, Initials}
use Rattle.run.specs.Runs.{Run, shown}
use Rattle.run.specs.Tests.{holds, is_read, is_write, same_place, in_range, rivalled, misplaced, broken, faulty}
use Rattle.bench.specs.declared.action.Action.{Action}
use Rattle.bench.specs.declared.action.Action.TheVariants.{Enter, Tie, Settle}
use Rattle.bench.specs.declared.fault.BenchFault.{BenchFault}
use Rattle.bench.specs.declared.fault.BenchFault.TheVariants.{BadNumber, OutOfRange, Clash, NoPair, Mismatch, NoWrite}
use Rattle.bench.specs.declared.fault.BenchFault.TheVariants as fault
use Rattle.bench.specs.Steps.{fresh, taken}

-- no event breaks the rule
abbrev pub NoneFaulty : Rule → Run → Type 0
NoneFaulty rule run = (n : ℕ) → n < 32 → faulty rule run n ≡ false

-- no event is settled out of place
abbrev pub NoneMisplaced : Run → Type 0
NoneMisplaced run = (n : ℕ) → n < 32 → holds (run n) (misplaced run n) ≡ false

-- the number of an entry is above 31 or standing
abbrev pub bad_number : Run → ℕ → Bool
bad_number run n = nat_lt 31 n || is_some (run n)

-- an entry breaks the rule of steps or that of initial writes
abbrev pub clashes : Run → ℕ → Event → Bool
clashes run n e = broken Steps run n e || broken Initials run n e

-- what stands at the two numbers agrees in location and value
abbrev pub agree : Option Event → Option Event → Bool
agree o p = holds o (λ e. holds p (λ f. same_place e f && e.value == f.value))

-- the first listed refusal of an action that applies
abbrev pub refusal : Run → Action → Option BenchFault
refusal run (Enter x) =
    cond (bad_number run x.number) (Some BadNumber)
    (cond (not (in_range (fresh x))) (Some OutOfRange) (cond (clashes run x.number (fresh x)) (Some Clash) None))
refusal run (Tie r w) =
    cond (holds (shown run r) is_read && holds (shown run w) is_write) (cond (agree (shown run r) (shown run w)) None (Some Mismatch)) (Some NoPair)
refusal run (Settle n) =
    cond (holds (shown run n) is_write) (cond (holds (shown run n) (rivalled run n)) (Some fault.OtherSettled) None) (Some NoWrite)

-- a refusal as the answer of the call
abbrev pub answer : Option BenchFault → Result (Unit {0}) BenchFault
answer None = Ok tt
answer (Some f) = Err f

-- the run after a call: the step taken, or the run as it was where the call is refused
abbrev pub stepped : Option BenchFault → Run → Action → Run
stepped None run a = taken run a
stepped (Some f) run a = run
