-- The reader's walk: the calls whose fields stand one behind another, and what the code makes of them. Assumes nothing.
use Rattle.std.proofs.Common.{◌≡◌, ℕ, zero, suc, ◌+◌, ◌-◌, ◌≤◌, List, [], ◌∷◌, ◌++◌, length, drop, take, Some, None, Ok, Err, Option, sym, refl, ap, ◌∙◌, append_assoc, arith, length-append, length-drop}
use Rattle.std.proofs.lemmas.List.{drop-drop, take_rest}
use Rattle.std.proofs.lemmas.List.Sums.{sum_by-cons}
use Rattle.bench.specs.declared.action.Action.{Action}
use Rattle.bench.specs.declared.fault.BenchFault.{BenchFault}
use Rattle.run.specs.Runs.{Run}
use Rattle.bench.specs.Steps.{taken, led}
use Rattle.bench.specs.Tests.{refusal, answer}
use Rattle.record.specs.declared.fault.RecordFault.TheVariants.{Call}
use Rattle.record.specs.Format.{spell, spelled}
use Rattle.record.specs.Reading.{call_at, placed_calls, calls_from, behind, call_fault, reached}
use Rattle.record.specs.Readings.{Accepted}
use Rattle.record.proofs.Found.{spell_long, drop_spell, call_spelled, takes, call_within}
use Rattle.record.proofs.Verdicts.{none_refused}

-- The walk

-- no call is found where nothing is left
pub none_left : (rest : List ℕ) → length rest ≤ 0 → call_at rest ≡ None
none_left rest h = go (call_at rest) (call_within rest)
  where
    go : (o : Option Action) → takes o ≤ length rest → o ≡ None
    go None l = refl
    go (Some a) l = absurd (omega (arith, spell_long a))

-- it ends where no call is found
walk_ends : (turns at : ℕ) (rest : List ℕ) → call_at rest ≡ None → placed_calls turns at rest ≡ []
unfolding placed_calls
walk_ends zero at rest none = refl
walk_ends (suc turns) at rest none = rw none refl

walk_none : (at : ℕ) (rest : List ℕ) → placed_calls zero at rest ≡ []
unfolding placed_calls
walk_none at rest = refl

-- and goes on behind one that is
walk_goes : (turns at : ℕ) (rest : List ℕ) (a : Action) → call_at rest ≡ Some a → placed_calls (suc turns) at rest ≡ (at, a) ∷ placed_calls turns (at + length (spell a)) (drop (length (spell a)) rest)
unfolding placed_calls
walk_goes turns at rest a found = rw found refl

-- with a turn for each byte, more turns find no more
enough : (turns other at : ℕ) (rest : List ℕ) → length rest ≤ turns → length rest ≤ other → placed_calls turns at rest ≡ placed_calls other at rest
enough zero other at rest h k = walk_ends zero at rest (none_left rest h) ∙ sym (walk_ends other at rest (none_left rest h))
enough (suc turns) zero at rest h k = walk_ends (suc turns) at rest (none_left rest k) ∙ sym (walk_ends zero at rest (none_left rest k))
enough (suc turns) (suc other) at rest h k = go (enough turns other) (call_at rest) refl (call_within rest)
  where
    go : ((at : ℕ) (rest : List ℕ) → length rest ≤ turns → length rest ≤ other → placed_calls turns at rest ≡ placed_calls other at rest) →
        (o : Option Action) → call_at rest ≡ o → takes o ≤ length rest → placed_calls (suc turns) at rest ≡ placed_calls (suc other) at rest
    go on None e l = walk_ends (suc turns) at rest e ∙ sym (walk_ends (suc other) at rest e)
    go on (Some a) e l =
        let n = length (spell a) in
        let more = on (at + n) (drop n rest) (omega (arith, length-drop n rest, spell_long a)) (omega (arith, length-drop n rest, spell_long a)) in
        walk_goes turns at rest a e ∙ ap (λ calls. (at, a) ∷ calls) more ∙ sym (walk_goes other at rest a e)

module _ (bytes : List ℕ) (at : ℕ) where
  -- from a place on: nothing, where no call is found there
  pub from_none : call_at (drop at bytes) ≡ None → calls_from at bytes ≡ []
  from_none none = walk_ends (length (drop at bytes)) at (drop at bytes) none

  -- a call that is found ends within the bytes
  pub from_within : (a : Action) → call_at (drop at bytes) ≡ Some a → length (spell a) ≤ length (drop at bytes)
  from_within a found = omega (arith, ap takes found, call_within (drop at bytes))

  -- and the others stand behind it
  pub from_some : (a : Action) → call_at (drop at bytes) ≡ Some a → calls_from at bytes ≡ (at, a) ∷ calls_from (at + length (spell a)) bytes
  from_some a found =
      let rest = drop at bytes in
      let n = length (spell a) in
      let turns : length rest ≡ suc (length rest - 1) = omega (arith, from_within a found, spell_long a) in
      let same = enough (length rest - 1) (length (drop n rest)) (at + n) (drop n rest) (omega (arith, length-drop n rest, spell_long a)) (omega arith) in
      ap (λ k. placed_calls k at rest) turns ∙ walk_goes (length rest - 1) at rest a found
      ∙ ap (λ calls. (at, a) ∷ calls) (same ∙ ap (λ l. placed_calls (length l) (at + n) l) (drop-drop n at bytes))

-- what the code's own look at the rest behind a place finds there
pub looked : (bytes : List ℕ) (at : ℕ) (found call : Option Action) → found ≡ call_at (take (length bytes - at) (drop at bytes)) → found ≡ call → call_at (drop at bytes) ≡ call
looked bytes at found call is was = ap call_at (sym (take_rest bytes at)) ∙ sym is ∙ was

-- the fields of the calls lie within the bytes
pub walk_within : (turns at : ℕ) (rest : List ℕ) → behind (placed_calls turns at rest) ≤ length rest
walk_within zero at rest = omega (arith, ap behind (walk_none at rest))
walk_within (suc turns) at rest = go (walk_within turns) (call_at rest) refl (call_within rest)
  where
    go : ((at : ℕ) (rest : List ℕ) → behind (placed_calls turns at rest) ≤ length rest) → (o : Option Action) → call_at rest ≡ o → takes o ≤ length rest → behind (placed_calls (suc turns) at rest) ≤ length rest
    go on None e l = omega (arith, ap behind (walk_ends (suc turns) at rest e))
    go on (Some a) e l =
        let n = length (spell a) in
        let calls = placed_calls turns (at + n) (drop n rest) in
        omega (arith, ap behind (walk_goes turns at rest a e), sum_by-cons (λ (c : ℕ × Action). length (spell c.1)) (at, a) calls, on (at + n) (drop n rest), length-drop n rest)

-- Calls that are spelled

-- calls, each with its place
abbrev pub placed : ℕ → List Action → List (ℕ × Action)
placed at [] = []
placed at (a ∷ more) = (at, a) ∷ placed (at + length (spell a)) more

-- a call's field is the first part of what stands there
field_first : (a : Action) (more : List Action) (rest : List ℕ) → length (spelled (a ∷ more) ++ rest) ≡ length (spell a) + length (spelled more ++ rest)
field_first a more rest = ap length (append_assoc (spell a) (spelled more) rest) ∙ length-append (spell a) (spelled more ++ rest)

-- calls that are spelled are found, up to what is none
pub walk_spelled : (turns at : ℕ) (calls : List Action) (rest : List ℕ) → length (spelled calls ++ rest) ≤ turns → call_at rest ≡ None → placed_calls turns at (spelled calls ++ rest) ≡ placed at calls
walk_spelled turns at [] rest h none = walk_ends turns at rest none
walk_spelled zero at (a ∷ more) rest h none = absurd (omega (arith, field_first a more rest, spell_long a))
walk_spelled (suc turns) at (a ∷ more) rest h none =
    rw (append_assoc (spell a) (spelled more) rest)
    (walk_goes turns at (spell a ++ (spelled more ++ rest)) a (call_spelled a (spelled more ++ rest))
    ∙ ap (λ l. (at, a) ∷ placed_calls turns (at + length (spell a)) l) (drop_spell a (spelled more ++ rest))
    ∙ ap (λ calls. (at, a) ∷ calls) (walk_spelled turns (at + length (spell a)) more rest (omega (arith, field_first a more rest, spell_long a)) none))

-- they end behind their fields
pub placed_behind : (at : ℕ) (calls : List Action) → behind (placed at calls) ≡ length (spelled calls)
placed_behind at [] = refl
placed_behind at (a ∷ more) =
    sum_by-cons (λ (c : ℕ × Action). length (spell c.1)) (at, a) (placed (at + length (spell a)) more)
    ∙ ap (λ n. length (spell a) + n) (placed_behind (at + length (spell a)) more) ∙ sym (length-append (spell a) (spelled more))

-- of calls that are steps none is refused
pub none_faulty : (at : ℕ) (run : Run) (calls : List Action) → Accepted run calls → call_fault run (placed at calls) ≡ None
none_faulty at run [] h = refl
none_faulty at run (a ∷ more) h = rw (none_refused run a h.0) (none_faulty (at + length (spell a)) (taken run a) more h.1)

-- and they lead the run on
pub reached_all : (at : ℕ) (run : Run) (calls : List Action) → Accepted run calls → reached run (placed at calls) ≡ led run calls
reached_all at run [] h = refl
reached_all at run (a ∷ more) h = rw (none_refused run a h.0) (reached_all (at + length (spell a)) (taken run a) more h.1)

-- one that is refused behind them is the first
pub first_faulty : (at : ℕ) (run : Run) (before after : List Action) (call : Action) (f : BenchFault) → Accepted run before → refusal (led run before) call ≡ Some f →
    call_fault run (placed at (before ++ (call ∷ after))) ≡ Some (Call (at + length (spelled before)) f)
first_faulty at run [] after call f h why = rw why (ap (λ place. Some (Call place f)) (omega arith))
first_faulty at run (a ∷ before) after call f h why =
    rw (none_refused run a h.0)
    (first_faulty (at + length (spell a)) (taken run a) before after call f h.1 why ∙ ap (λ place. Some (Call place f)) (omega (arith, length-append (spell a) (spelled before))))

-- The replay

-- how far a replay from a run on has come: what is left gives the whole answer and the last run
pub record Replaying (all : List (ℕ × Action)) (start : Run) (rest : List (ℕ × Action)) (run : Run) : Type 0 where
  pub faults : call_fault run rest ≡ call_fault start all
  pub runs : reached run rest ≡ reached start all

-- a call that is a step
pub replaying_step : (all : List (ℕ × Action)) (start : Run) (rest more : List (ℕ × Action)) (run after : Run) (at : ℕ) (a : Action) → Replaying all start rest run → rest ≡ (at, a) ∷ more →
    refusal run a ≡ None → after ≡ taken run a → Replaying all start more after
replaying_step all start rest more run after at a s is free step =
    let fault : call_fault run ((at, a) ∷ more) ≡ call_fault (taken run a) more = rw free refl in
    let last : reached run ((at, a) ∷ more) ≡ reached (taken run a) more = rw free refl in
    record {
      faults = ap (λ r. call_fault r more) step ∙ sym fault ∙ sym (ap (call_fault run) is) ∙ s.faults;
      runs = ap (λ r. reached r more) step ∙ sym last ∙ sym (ap (reached run) is) ∙ s.runs;
    }

-- a call that is refused
pub replayed_refused : (all : List (ℕ × Action)) (start : Run) (rest more : List (ℕ × Action)) (run : Run) (at : ℕ) (a : Action) (f : BenchFault) → Replaying all start rest run → rest ≡ (at, a) ∷ more →
    refusal run a ≡ Some f → (Some (Call at f) ≡ call_fault start all) × (run ≡ reached start all)
replayed_refused all start rest more run at a f s is why =
    let fault : call_fault run ((at, a) ∷ more) ≡ Some (Call at f) = rw why refl in
    let last : reached run ((at, a) ∷ more) ≡ run = rw why refl in
    (sym fault ∙ sym (ap (call_fault run) is) ∙ s.faults, sym last ∙ sym (ap (reached run) is) ∙ s.runs)

-- what the bench's answer says of the refusal behind it
pub refused_for : (o : Option BenchFault) (f : BenchFault) → Err f ≡ answer o → o ≡ Some f
refused_for None f h = absurd (let z : ◌≡◌ {A = ℕ} 0 1 = cc in omega arith)
refused_for (Some g) f h = cc

pub not_refused : (o : Option BenchFault) (u : Unit {0}) → Ok u ≡ answer o → o ≡ None
not_refused None u h = refl
not_refused (Some g) u h = absurd (let z : ◌≡◌ {A = ℕ} 0 1 = cc in omega arith)
