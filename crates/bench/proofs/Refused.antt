-- The refusal that the code finds is the first listed one that applies, and where it finds none the action is a step. Assumes nothing.
use Rattle.std.proofs.Common.{◌≡◌, ℕ, ◌<◌, ◌≤◌, Bool, true, false, cond, not, ◌&&◌, ◌||◌, eqb, ltb, ◌⊎◌, is_some, Some, None, Ok, Decides, Option, sym, refl, ap, ◌∙◌, subst, inl, inr, ⊎_elim, arith}
use Rattle.std.proofs.lemmas.Bool.Decides.{Decides-and, Decides-or, Decides-not, Decides-like, Decides-at, Decides-eqb, Decides-ltb, not_from_Decides}
use Rattle.std.proofs.lemmas.Bool.{cases_lt, cases_eq, lt-ltb, le-ltb, false≢true, not-false, or_parts}
use Rattle.run.specs.declared.event.Event.{Event}
use Rattle.bench.specs.declared.action.Entry.{Entry}
use Rattle.bench.specs.declared.action.Action.{Action}
use Rattle.bench.specs.declared.action.Action.TheVariants.{Enter, Tie, Settle}
use Rattle.bench.specs.declared.fault.BenchFault.{BenchFault}
use Rattle.bench.specs.declared.fault.BenchFault.TheVariants.{BadNumber, OutOfRange, Clash, NoPair, Mismatch, NoWrite, OtherSettled}
use Rattle.run.specs.declared.rule.Rule.TheVariants.{Steps, Initials}
use Rattle.run.specs.Events.{Read, Write, SamePlace}
use Rattle.bench.specs.Steps.{fresh, put}
use Rattle.bench.specs.Numbers.{bench_refusal}
use Rattle.bench.specs.Refusals.{Applies, Answers, Holds, Agree}
use Rattle.run.specs.Rules.{Keeps}
use Rattle.run.specs.Runs.{Run, Stands, shown}
use Rattle.run.specs.Tests.{holds, is_read, is_write, same_place, in_range, broken, rivalled}
use Rattle.bench.specs.Tests.{clashes, bad_number, agree, refusal, answer}
use Rattle.run.proofs.Rules.{read_decided, write_decided, place_decided, range_decided, flag_decided, other_decided, rival_decided, only_settled_decided, stands_shown, shown_decided, decided}
use Rattle.bench.proofs.Stays.{came, stays_there, one_event, Open}

-- Enter

number_decided : (run : Run) (x : Entry) → Decides (bad_number run x.number) (Applies BadNumber run (Enter x))
number_decided run x = (there (cases_lt x.number 32), back)
  where
    some : (o : Option Event) → is_some o ≡ true → (e : Event) × (o ≡ Some e)
    some None h = absurd (false≢true h)
    some (Some e) h = (e, refl)

    there : (x.number < 32) ⊎ (32 ≤ x.number) → bad_number run x.number ≡ true → Applies BadNumber run (Enter x)
    there (inl l) h =
        let low : ltb 31 x.number ≡ false = le-ltb 31 x.number (omega arith) in
        let e = some (run x.number) (sym (ap (λ b. b || is_some (run x.number)) low) ∙ h) in
        inr (e.0, (l, e.1), tt)
    there (inr l) h = inl (omega arith)

    back : Applies BadNumber run (Enter x) → bad_number run x.number ≡ true
    back (inl l) = ap (λ b. b || is_some (run x.number)) (lt-ltb 31 x.number l)
    back (inr h) = (Decides-or (ltb 31 x.number) (is_some (run x.number)) (Decides-ltb 31 x.number) (flag_decided (is_some (run x.number)))).1 (inr (ap is_some h.1.1))

-- an entry keeps a rule about pairs before it is put down exactly when it does after
entry_steps : (run : Run) (n : ℕ) (e : Event) → (Keeps Steps run n e → Keeps Steps (put run n (Some e)) n e) × (Keeps Steps (put run n (Some e)) n e → Keeps Steps run n e)
entry_steps run n e = (
  λ k threaded m f s th st. ⊎_elim (λ h. h.0) (λ h. k threaded m f h.1 th st) (came run n e m f s),
  λ k threaded m f s th st. ⊎_elim (λ h. h) (λ h. k threaded m f (stays_there run n (Some e) m f h s) th st) (cases_eq m n),
)

entry_initials : (run : Run) (n : ℕ) (e : Event) → (Keeps Initials run n e → Keeps Initials (put run n (Some e)) n e) × (Keeps Initials (put run n (Some e)) n e → Keeps Initials run n e)
entry_initials run n e = (
  λ k initial m f s twin place. ⊎_elim (λ h. h.0) (λ h. k initial m f h.1 twin place) (came run n e m f s),
  λ k initial m f s twin place. ⊎_elim (λ h. h) (λ h. k initial m f (stays_there run n (Some e) m f h s) twin place) (cases_eq m n),
)

neither : (a b : Bool) → (a || b) ≡ not (not a && not b)
neither true b = refl
neither false true = refl
neither false false = refl

clash_decided : (run : Run) (x : Entry) → Decides (clashes run x.number (fresh x)) (Applies Clash run (Enter x))
clash_decided run x =
    let n = x.number in
    let e = fresh x in
    Decides-at _ _ (neither (broken Steps run n e) (broken Initials run n e))
    (Decides-like _
    (λ no k. no ((entry_steps run n e).1 k.0, (entry_initials run n e).1 k.1))
    (λ no k. no ((entry_steps run n e).0 k.0, (entry_initials run n e).0 k.1))
    (Decides-not _ (Decides-and _ _ (decided Steps run n e) (decided Initials run n e))))

-- Tie

both : (a b : Bool) → not (a && b) ≡ (not a || not b)
both true b = refl
both false b = refl

pair_decided : (run : Run) (r w : ℕ) → Decides (not (holds (shown run r) is_read && holds (shown run w) is_write)) (Applies NoPair run (Tie r w))
pair_decided run r w =
    Decides-at _ _ (both (holds (shown run r) is_read) (holds (shown run w) is_write))
    (Decides-or _ _ (Decides-not _ (shown_decided run r is_read Read read_decided)) (Decides-not _ (shown_decided run w is_write Write write_decided)))

agree_decided : (e f : Event) → Decides (same_place e f && eqb e.value f.value) (Agree e f)
agree_decided e f = Decides-and _ _ (place_decided e f) (Decides-eqb e.value f.value)

-- where both events stand, the test of agreement is theirs
agree_at : (run : Run) (r w : ℕ) (e f : Event) → Stands run r e → Stands run w f → agree (shown run r) (shown run w) ≡ (same_place e f && eqb e.value f.value)
agree_at run r w e f s t = rw (stands_shown run r e s, stands_shown run w f t) refl

-- events that agree are no mismatch
no_mismatch : (run : Run) (r w : ℕ) (e f : Event) → Stands run r e → Stands run w f → Agree e f → Applies Mismatch run (Tie r w) → ⊥
no_mismatch run r w e f s t agrees h = h.2.2 (subst (λ v. Agree v h.2.0) (one_event run r e h.0 s h.1) (subst (λ v. Agree e v) (one_event run w f h.2.0 t h.2.1) agrees))

mismatch_decided : (run : Run) (r w : ℕ) (e f : Event) → Stands run r e → Stands run w f → Decides (not (agree (shown run r) (shown run w))) (Applies Mismatch run (Tie r w))
mismatch_decided run r w e f s t =
    Decides-at _ _ (ap not (agree_at run r w e f s t))
    (Decides-like _
    (λ no. (e, s, (f, t, no)))
    (λ h agrees. no_mismatch run r w e f s t agrees h)
    (Decides-not _ (agree_decided e f)))

-- Settle

write_there : (run : Run) (n : ℕ) → Decides (not (holds (shown run n) is_write)) (Applies NoWrite run (Settle n))
write_there run n = Decides-not _ (shown_decided run n is_write Write write_decided)

rivals_decided : (run : Run) (n : ℕ) → Decides (holds (shown run n) (rivalled run n)) (Applies OtherSettled run (Settle n))
rivals_decided run n =
    shown_decided run n (rivalled run n) _
    (λ e.
    Decides-like _
    (λ h. (h.0, h.2, (h.1, h.3, (h.4.0, h.4.1.0, h.4.1.1))))
    (λ h. (h.0, h.2.0, h.1, h.2.1, (h.2.2.0, (h.2.2.1, h.2.2.2))))
    (other_decided run n _ (λ f. Write f × ((f.settled ≡ true) × SamePlace f e)) (λ f. rival_decided f e)))

-- Faults in their order

abbrev fault_number : BenchFault → ℕ
fault_number f = (bench_refusal f).number

-- a fault listed below a number, of each call: the others never apply to it
below_enter : (run : Run) (x : Entry) (k : ℕ) → (9 < k → Applies BadNumber run (Enter x) → ⊥) → (10 < k → Applies OutOfRange run (Enter x) → ⊥) → (11 < k → Applies Clash run (Enter x) → ⊥) →
    (g : BenchFault) → fault_number g < k → Applies g run (Enter x) → ⊥
below_enter run x k a b c BadNumber l h = a l h
below_enter run x k a b c OutOfRange l h = b l h
below_enter run x k a b c Clash l h = c l h
below_enter run x k a b c NoPair l h = h
below_enter run x k a b c Mismatch l h = h
below_enter run x k a b c NoWrite l h = h
below_enter run x k a b c OtherSettled l h = h

below_tie : (run : Run) (r w k : ℕ) → (12 < k → Applies NoPair run (Tie r w) → ⊥) → (13 < k → Applies Mismatch run (Tie r w) → ⊥) →
    (g : BenchFault) → fault_number g < k → Applies g run (Tie r w) → ⊥
below_tie run r w k a b BadNumber l h = h
below_tie run r w k a b OutOfRange l h = h
below_tie run r w k a b Clash l h = h
below_tie run r w k a b NoPair l h = a l h
below_tie run r w k a b Mismatch l h = b l h
below_tie run r w k a b NoWrite l h = h
below_tie run r w k a b OtherSettled l h = h

below_settle : (run : Run) (n k : ℕ) → (14 < k → Applies NoWrite run (Settle n) → ⊥) → (15 < k → Applies OtherSettled run (Settle n) → ⊥) →
    (g : BenchFault) → fault_number g < k → Applies g run (Settle n) → ⊥
below_settle run n k a b BadNumber l h = h
below_settle run n k a b OutOfRange l h = h
below_settle run n k a b Clash l h = h
below_settle run n k a b NoPair l h = h
below_settle run n k a b Mismatch l h = h
below_settle run n k a b NoWrite l h = a l h
below_settle run n k a b OtherSettled l h = b l h

-- every fault of the bench is numbered below 16
numbered : (g : BenchFault) → fault_number g < 16
numbered BadNumber = omega arith
numbered OutOfRange = omega arith
numbered Clash = omega arith
numbered NoPair = omega arith
numbered Mismatch = omega arith
numbered NoWrite = omega arith
numbered OtherSettled = omega arith

-- tests that decide three refusals of an entry give its answer
enter_answers : (run : Run) (x : Entry) (a b c : Bool) → Decides a (Applies BadNumber run (Enter x)) → Decides b (Applies OutOfRange run (Enter x)) → Decides c (Applies Clash run (Enter x)) →
    Answers run (Enter x) (answer (cond a (Some BadNumber) (cond b (Some OutOfRange) (cond c (Some Clash) None))))
enter_answers run x true b c d e f = (d.0 refl, below_enter run x 9 (λ l. absurd (omega arith)) (λ l. absurd (omega arith)) (λ l. absurd (omega arith)))
enter_answers run x false true c d e f = (e.0 refl, below_enter run x 10 (λ _. not_from_Decides false d refl) (λ l. absurd (omega arith)) (λ l. absurd (omega arith)))
enter_answers run x false false true d e f = (f.0 refl, below_enter run x 11 (λ _. not_from_Decides false d refl) (λ _. not_from_Decides false e refl) (λ l. absurd (omega arith)))
enter_answers run x false false false d e f =
    λ g. below_enter run x 16 (λ _. not_from_Decides false d refl) (λ _. not_from_Decides false e refl) (λ _. not_from_Decides false f refl) g (numbered g)

tie_answers : (run : Run) (r w : ℕ) (a b : Bool) → Decides (not a) (Applies NoPair run (Tie r w)) → (a ≡ true → Decides (not b) (Applies Mismatch run (Tie r w))) →
    Answers run (Tie r w) (answer (cond a (cond b None (Some Mismatch)) (Some NoPair)))
tie_answers run r w false b d e = (d.0 refl, below_tie run r w 12 (λ l. absurd (omega arith)) (λ l. absurd (omega arith)))
tie_answers run r w true false d e = ((e refl).0 refl, below_tie run r w 13 (λ _. not_from_Decides false d refl) (λ l. absurd (omega arith)))
tie_answers run r w true true d e = λ g. below_tie run r w 16 (λ _. not_from_Decides false d refl) (λ _. not_from_Decides false (e refl) refl) g (numbered g)

settle_answers : (run : Run) (n : ℕ) (a b : Bool) → Decides (not a) (Applies NoWrite run (Settle n)) → Decides b (Applies OtherSettled run (Settle n)) →
    Answers run (Settle n) (answer (cond a (cond b (Some OtherSettled) None) (Some NoWrite)))
settle_answers run n false b d e = (d.0 refl, below_settle run n 14 (λ l. absurd (omega arith)) (λ l. absurd (omega arith)))
settle_answers run n true true d e = (e.0 refl, below_settle run n 15 (λ _. not_from_Decides false d refl) (λ l. absurd (omega arith)))
settle_answers run n true false d e = λ g. below_settle run n 16 (λ _. not_from_Decides false d refl) (λ _. not_from_Decides false e refl) g (numbered g)

-- where the test of a pair comes out true, a read and a write stand there
pair_stands : (run : Run) (r w : ℕ) → (holds (shown run r) is_read && holds (shown run w) is_write) ≡ true → Holds run r Read × Holds run w Write
pair_stands run r w = (Decides-and _ _ (shown_decided run r is_read Read read_decided) (shown_decided run w is_write Write write_decided)).0

-- the code's refusal is the first listed that applies
pub answered : (run : Run) (a : Action) → Answers run a (answer (refusal run a))
answered run (Enter x) =
    enter_answers run x (bad_number run x.number) (not (in_range (fresh x))) (clashes run x.number (fresh x))
    (number_decided run x) (Decides-not _ (range_decided (fresh x))) (clash_decided run x)
answered run (Tie r w) =
    tie_answers run r w (holds (shown run r) is_read && holds (shown run w) is_write) (agree (shown run r) (shown run w)) (pair_decided run r w)
    (λ h. let p = pair_stands run r w h in mismatch_decided run r w p.0.0 p.1.0 p.0.1 p.1.1)
answered run (Settle n) =
    settle_answers run n (holds (shown run n) is_write) (holds (shown run n) (rivalled run n)) (write_there run n) (rivals_decided run n)

-- an answer shows which refusal it was made of
pub answer_none : (o : Option BenchFault) → answer o ≡ Ok tt → o ≡ None
answer_none None h = refl
answer_none (Some f) h = absurd (cc h)

-- where the code finds no refusal, the tests came out so
enter_open : (a b c : Bool) → cond a (Some BadNumber) (cond b (Some OutOfRange) (cond c (Some Clash) None)) ≡ None → (a ≡ false) × (b ≡ false) × (c ≡ false)
enter_open true b c h = absurd (cc)
enter_open false true c h = absurd (cc)
enter_open false false true h = absurd (cc)
enter_open false false false h = (refl, refl, refl)

tie_open : (a b : Bool) → cond a (cond b None (Some Mismatch)) (Some NoPair) ≡ None → (a ≡ true) × (b ≡ true)
tie_open false b h = absurd (cc)
tie_open true false h = absurd (cc)
tie_open true true h = (refl, refl)

settle_open : (a b : Bool) → cond a (cond b (Some OtherSettled) None) (Some NoWrite) ≡ None → (a ≡ true) × (b ≡ false)
settle_open false b h = absurd (cc)
settle_open true true h = absurd (cc)
settle_open true false h = (refl, refl)

-- where the code finds no refusal, the action is a step
pub opened : (run : Run) (a : Action) → refusal run a ≡ None → Open run a
opened run (Enter x) h =
    let t = enter_open (bad_number run x.number) (not (in_range (fresh x))) (clashes run x.number (fresh x)) h in
    let low : x.number < 32 = ⊎_elim (λ l. l) (λ l. absurd (not_from_Decides _ (number_decided run x) t.0 (inl (omega arith)))) (cases_lt x.number 32) in
    let k = or_parts (broken Steps run x.number (fresh x)) (broken Initials run x.number (fresh x)) t.2 in
    record {
      below = low;
      free = none_there (run x.number) (or_parts (ltb 31 x.number) (is_some (run x.number)) t.0).1;
      ranged = (range_decided (fresh x)).0 (not-false (in_range (fresh x)) t.1);
      steps = (decided Steps run x.number (fresh x)).0 (ap not k.0);
      initials = (decided Initials run x.number (fresh x)).0 (ap not k.1);
    }
  where
    none_there : (o : Option Event) → is_some o ≡ false → o ≡ None
    none_there None h = refl
    none_there (Some e) h = absurd (false≢true (sym h))
opened run (Tie r w) h =
    let t = tie_open (holds (shown run r) is_read && holds (shown run w) is_write) (agree (shown run r) (shown run w)) h in
    let p = pair_stands run r w t.0 in
    let a = (agree_decided p.0.0 p.1.0).0 (sym (agree_at run r w p.0.0 p.1.0 p.0.1 p.1.1) ∙ t.1) in
    record {
      read = p.0.0;
      write = p.1.0;
      read_stands = p.0.1;
      write_stands = p.1.1;
      reads = p.0.2;
      writes = p.1.2;
      place = a.0;
      same = a.1;
    }
opened run (Settle n) h =
    let t = settle_open (holds (shown run n) is_write) (holds (shown run n) (rivalled run n)) h in
    let w = (shown_decided run n is_write Write write_decided).0 t.0 in
    record {
      write = w.0;
      stands = w.1;
      writes = w.2;
      only = (only_settled_decided run n w.0).0 (ap not (sym (ap (λ o. holds o (rivalled run n)) (stands_shown run n w.0 w.1)) ∙ t.1));
    }

-- to a step no refusal applies
pub open_answers : (run : Run) (a : Action) → Open run a → Answers run a (Ok tt)
open_answers run (Enter x) good =
    λ g.
    below_enter run x 16
    (λ _ h. ⊎_elim (λ l. omega (arith, l, good.below)) (λ s. let clash : Some s.0 ≡ None = sym s.1.1 ∙ good.free in cc) h)
    (λ _ h. h good.ranged)
    (λ _ h. h ((entry_steps run x.number (fresh x)).0 good.steps, (entry_initials run x.number (fresh x)).0 good.initials))
    g (numbered g)
open_answers run (Tie r w) good =
    λ g.
    below_tie run r w 16
    (λ _ h. ⊎_elim (λ n. n (good.read, good.read_stands, good.reads)) (λ n. n (good.write, good.write_stands, good.writes)) h)
    (λ _. no_mismatch run r w good.read good.write good.read_stands good.write_stands (good.place, good.same))
    g (numbered g)
open_answers run (Settle n) good =
    λ g.
    below_settle run n 16
    (λ _ h. h (good.write, good.stands, good.writes))
    (λ _ h. h.2.1 (good.only h.2.0 h.2.2.0 h.2.2.1 h.2.2.2.0 h.2.2.2.1 (h.2.2.2.2 ∙ ap (λ (v : Event). v.location) (one_event run n h.0 good.write h.1 good.stands))))
    g (numbered g)
