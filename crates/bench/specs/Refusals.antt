-- When a call of the bench is refused. Assumes nothing.
use Rattle.std.specs.Prelude.{◌≡◌, ℕ, ◌<◌, true, ◌⊎◌, Ok, Err, Result, ◌≢◌}
use Rattle.run.specs.declared.event.Event.{Event}
use Rattle.bench.specs.declared.action.Entry.{Entry}
use Rattle.bench.specs.declared.action.Action.{Action}
use Rattle.bench.specs.declared.action.Action.TheVariants.{Enter, Tie, Settle}
use Rattle.bench.specs.declared.fault.BenchFault.{BenchFault}
use Rattle.bench.specs.declared.fault.BenchFault.TheVariants.{BadNumber, OutOfRange, Clash, NoPair, Mismatch, NoWrite, OtherSettled}
use Rattle.run.specs.declared.rule.Rule.TheVariants.{Steps, Initials}
use Rattle.run.specs.Events.{Read, Write, InRange, SamePlace}
use Rattle.bench.specs.Steps.{fresh, taken}
use Rattle.run.specs.Runs.{Run, Stands}
use Rattle.run.specs.Rules.{Keeps}
use Rattle.bench.specs.Numbers.{bench_refusal}

-- a condition on an entry, which no other action meets
abbrev pub Entering : Action → (Entry → Type 0) → Type 0
Entering (Enter x) P = P x
Entering (Tie r w) P = ⊥
Entering (Settle n) P = ⊥

-- a condition on a tie
abbrev pub Tying : Action → (ℕ → ℕ → Type 0) → Type 0
Tying (Enter x) P = ⊥
Tying (Tie r w) P = P r w
Tying (Settle n) P = ⊥

-- a condition on a settling
abbrev pub Settling : Action → (ℕ → Type 0) → Type 0
Settling (Enter x) P = ⊥
Settling (Tie r w) P = ⊥
Settling (Settle n) P = P n

-- some event with the property stands at the number
abbrev pub Holds : Run → ℕ → (Event → Type 0) → Type 0
Holds run n P = (e : Event) × Stands run n e × P e

-- the events agree in location and value
abbrev pub Agree : Event → Event → Type 0
Agree e f = SamePlace e f × (e.value ≡ f.value)

-- the action is refused for this reason, whether or not for another one too
abbrev pub Applies : BenchFault → Run → Action → Type 0
-- a number above 31 or standing
Applies BadNumber run a = Entering a (λ x. (31 < x.number) ⊎ Holds run x.number (λ e. Unit {0}))
-- a field out of range
Applies OutOfRange run a = Entering a (λ x. InRange (fresh x) → ⊥)
-- it would break the rule of steps or that of initial writes
Applies Clash run a = Entering a (λ x. (Keeps Steps (taken run a) x.number (fresh x) × Keeps Initials (taken run a) x.number (fresh x)) → ⊥)
-- no standing read, or no standing write
Applies NoPair run a = Tying a (λ r w. (Holds run r Read → ⊥) ⊎ (Holds run w Write → ⊥))
-- locations or values differ
Applies Mismatch run a = Tying a (λ r w. Holds run r (λ e. Holds run w (λ f. Agree e f → ⊥)))
-- no standing write
Applies NoWrite run a = Settling a (λ n. Holds run n Write → ⊥)
-- another write of the location is settled
Applies OtherSettled run a =
    Settling a (λ n. Holds run n (λ e. (m : ℕ) × (m ≢ n) × Holds run m (λ f. Write f × (f.settled ≡ true) × SamePlace f e)))

-- the answer of enter, tie and settle: refused exactly when a refusal applies, with the first listed
abbrev pub Answers : Run → Action → Result (Unit {0}) BenchFault → Type 0
Answers run a (Ok done) = (f : BenchFault) → Applies f run a → ⊥
Answers run a (Err f) = Applies f run a × ((g : BenchFault) → (bench_refusal g).number < (bench_refusal f).number → Applies g run a → ⊥)
