-- A call of the bench has one answer, and it is the one that the code computes. Assumes nothing.
use Rattle.std.proofs.Common.{◌≡◌, ℕ, ◌<◌, cond, eqb, ◌⊎◌, Some, None, Ok, Err, Option, sym, refl, ap, ◌∙◌, inl, inr}
use Rattle.std.proofs.lemmas.Bool.{cases_order}
use Rattle.bench.specs.declared.action.Action.{Action}
use Rattle.bench.specs.declared.fault.BenchFault.{BenchFault}
use Rattle.bench.specs.declared.fault.BenchFault.TheVariants.{BadNumber, OutOfRange, Clash, NoPair, Mismatch, NoWrite, OtherSettled}
use Rattle.bench.specs.Numbers.{bench_refusal}
use Rattle.bench.specs.Refusals.{Answers}
use Rattle.run.specs.Runs.{Run}
use Rattle.bench.specs.Tests.{refusal, answer}
use Rattle.bench.proofs.Refused.{answered}

-- the fault with a number
fault_at : ℕ → BenchFault
fault_at n =
    cond (eqb n 9) BadNumber (cond (eqb n 10) OutOfRange (cond (eqb n 11) Clash
    (cond (eqb n 12) NoPair (cond (eqb n 13) Mismatch (cond (eqb n 14) NoWrite OtherSettled)))))

-- a fault is the one with its number
fault_numbered : (f : BenchFault) → fault_at (bench_refusal f).number ≡ f
unfolding fault_at
fault_numbered BadNumber = refl
fault_numbered OutOfRange = refl
fault_numbered Clash = refl
fault_numbered NoPair = refl
fault_numbered Mismatch = refl
fault_numbered NoWrite = refl
fault_numbered OtherSettled = refl

-- the first listed fault that applies is one
one_fault : (run : Run) (a : Action) (f g : BenchFault) → Answers run a (Err f) → Answers run a (Err g) → f ≡ g
one_fault run a f g h k = go (cases_order (bench_refusal f).number (bench_refusal g).number)
  where
    go : ((bench_refusal f).number ≡ (bench_refusal g).number) ⊎ (((bench_refusal f).number < (bench_refusal g).number) ⊎ ((bench_refusal g).number < (bench_refusal f).number)) → f ≡ g
    go (inl e) = sym (fault_numbered f) ∙ ap fault_at e ∙ fault_numbered g
    go (inr (inl l)) = absurd (k.1 f l h.0)
    go (inr (inr l)) = absurd (h.1 g l k.0)

-- a call that the bench answers with Ok is not refused by the code
pub none_refused : (run : Run) (a : Action) → Answers run a (Ok tt) → refusal run a ≡ None
none_refused run a h = go (refusal run a) (answered run a)
  where
    go : (o : Option BenchFault) → Answers run a (answer o) → o ≡ None
    go None k = refl
    go (Some f) k = absurd (h f k.0)

-- a call that the bench refuses, the code refuses with the same fault
pub one_refused : (run : Run) (a : Action) (f : BenchFault) → Answers run a (Err f) → refusal run a ≡ Some f
one_refused run a f h = go (refusal run a) (answered run a)
  where
    go : (o : Option BenchFault) → Answers run a (answer o) → o ≡ Some f
    go None k = absurd (k f h.0)
    go (Some g) k = ap Some (one_fault run a g f k h)
