-- Bytes have one reading, which is what the reader computes. Assumes nothing.
use Rattle.std.proofs.Common.{◌≡◌, ℕ, ◌+◌, ◌<◌, ◌≤◌, Bool, true, false, ◌⊎◌, List, [], ◌∷◌, ◌++◌, length, drop, Some, None, Ok, Err, Option, sym, refl, ap, ◌∙◌, subst, inl, inr, arith}
use Rattle.std.proofs.lemmas.List.{drop_at}
use Rattle.std.proofs.lemmas.Bool.{lt-ltb, le-ltb, ne_eqb, cases_lt, cond_both}
use Rattle.std.specs.Option.{option_or}
use Rattle.bench.specs.declared.action.Action.{Action}
use Rattle.bench.specs.declared.fault.BenchFault.{BenchFault}
use Rattle.run.specs.Runs.{Run, nothing}
use Rattle.bench.specs.Steps.{led}
use Rattle.record.specs.declared.fault.RecordFault.{RecordFault}
use Rattle.record.specs.declared.fault.RecordFault.TheVariants.{TooLong, Shape, Call}
use Rattle.record.specs.Format.{Bytes, spelled, end, Spells}
use Rattle.record.specs.Reading.{headed, call_at, calls_of, behind, unended, misfit, call_fault, reached, shape_fault, record_run, read_fault, checked}
use Rattle.record.specs.Readings.{Misfit, Misshapen, Accepted, Refused, Holds, Read, OneReading, OneRun}
use Rattle.record.proofs.Found.{Begins, begins, none_begins, end_headed, end_spelled, end_begins}
use Rattle.record.proofs.Verdicts.{one_refused}
use Rattle.record.proofs.Walks.{placed, walk_spelled, placed_behind, none_faulty, reached_all, first_faulty}
use Rattle.record.proofs.Splits.{bytes_drop, Split, split, Stops, tried}

-- What the reader finds, for each kind of reading

-- the bytes of a record split where its calls end
module _ (bytes : List ℕ) (calls : List Action) (rest : List ℕ) (splits : bytes ≡ spelled calls ++ rest) (none : call_at rest ≡ None) where
  -- the calls are those that are spelled
  pub calls_found : calls_of bytes ≡ placed 0 calls
  calls_found = ap calls_of splits ∙ walk_spelled (length (spelled calls ++ rest)) 0 calls rest (omega arith) none

  -- behind them stands the rest
  pub misfit_found : misfit bytes ≡ unended (length (spelled calls)) rest
  misfit_found =
      let place : behind (calls_of bytes) ≡ length (spelled calls) = ap behind calls_found ∙ placed_behind 0 calls in
      ap (λ at. unended at (drop at bytes)) place
      ∙ ap (unended (length (spelled calls))) (ap (drop (length (spelled calls))) splits ∙ drop_at (spelled calls) rest (length (spelled calls)) refl)

-- a record's shape is right
spelled_shape : (bytes : List ℕ) (calls : List Action) → Spells bytes calls → misfit bytes ≡ None
spelled_shape bytes calls s = misfit_found bytes calls end s (end_spelled [])

-- none of the calls that a record holds is refused
held_calls : (bytes : List ℕ) (run : Run) → Holds bytes run → call_fault nothing (calls_of bytes) ≡ None
held_calls bytes run h = ap (call_fault nothing) (calls_found bytes h.calls end h.spells (end_spelled [])) ∙ none_faulty 0 nothing h.calls h.accepted

-- the run that a record holds is the one that is reached
held_run : (bytes : List ℕ) (run : Run) → Holds bytes run → run ≡ record_run bytes
held_run bytes run h = h.leads ∙ sym (ap (reached nothing) (calls_found bytes h.calls end h.spells (end_spelled [])) ∙ reached_all 0 nothing h.calls h.accepted)

-- what stands behind the fields of calls is bytes
bytes_behind : (bytes : List ℕ) (calls : List Action) (rest : List ℕ) → bytes ≡ spelled calls ++ rest → Bytes bytes → Bytes rest
bytes_behind bytes calls rest e h =
    subst Bytes (ap (drop (length (spelled calls))) e ∙ drop_at (spelled calls) rest (length (spelled calls)) refl) (bytes_drop (length (spelled calls)) bytes h)

-- where neither a call's field nor the end begins, no head is found
misfit_none : (rest : List ℕ) → Bytes rest → Misfit rest → call_at rest ≡ None
misfit_none rest h m = go (call_at rest) (begins rest h)
  where
    go : (o : Option Action) → Begins rest o → o ≡ None
    go None b = refl
    go (Some a) b = absurd (m.field a _ b)

misfit_unended : (rest : List ℕ) (at : ℕ) → Misfit rest → unended at rest ≡ Some at
misfit_unended rest at m = cond_both (headed rest 0 0) _ _ (λ o. o ≡ Some at) (λ h. absurd (m.ended _ (end_begins rest h))) (λ h. refl)

-- the end with a byte behind it
past_unended : (at b : ℕ) (more : List ℕ) → unended at (end ++ (b ∷ more)) ≡ Some (at + 3)
past_unended at b more =
    let rest = end ++ (b ∷ more) in
    rw (end_headed (b ∷ more), ne_eqb (length rest) 3 (λ e. omega arith)) refl

-- misshapen bytes are found at their place
misshapen_shape : (bytes : List ℕ) (place : ℕ) → Bytes bytes → Misshapen bytes place → misfit bytes ≡ Some place
misshapen_shape bytes place h m = go m.fault
  where
    go : (Misfit m.rest × (place ≡ length (spelled m.calls))) ⊎ ((b : ℕ) × (more : List ℕ) × (m.rest ≡ end ++ (b ∷ more)) × (place ≡ length (spelled m.calls) + 3)) → misfit bytes ≡ Some place
    go (inl f) =
        misfit_found bytes m.calls m.rest m.splits (misfit_none m.rest (bytes_behind bytes m.calls m.rest m.splits h) f.0)
        ∙ misfit_unended m.rest (length (spelled m.calls)) f.0
        ∙ ap Some (sym f.1)
    go (inr f) =
        misfit_found bytes m.calls (end ++ (f.0 ∷ f.1)) (m.splits ∙ ap (λ l. spelled m.calls ++ l) f.2) (end_spelled (f.0 ∷ f.1))
        ∙ past_unended (length (spelled m.calls)) f.0 f.1
        ∙ ap Some (sym f.3)

-- a refused call is found at its place
refused_call : (bytes : List ℕ) (place : ℕ) (fault : BenchFault) → Refused bytes place fault → call_fault nothing (calls_of bytes) ≡ Some (Call place fault)
refused_call bytes place fault r =
    ap (call_fault nothing) (calls_found bytes (r.before ++ (r.call ∷ r.after)) end r.spells (end_spelled []))
    ∙ first_faulty 0 nothing r.before r.after r.call fault r.accepted (one_refused (led nothing r.before) r.call fault r.refused)
    ∙ ap (λ at. Some (Call at fault)) (omega (arith, r.here))

-- The answer

-- the answer of bytes that are not too many, by what is found
short_fault : (bytes : List ℕ) (o : Option ℕ) (p : Option RecordFault) → length bytes ≤ 4096 → misfit bytes ≡ o → call_fault nothing (calls_of bytes) ≡ p →
    read_fault bytes ≡ option_or (shape_fault o) p
short_fault bytes o p l e f = rw (le-ltb 4096 (length bytes) l, e, f)

-- the answer of a reading is what the reader computes
pub told : (bytes : List ℕ) → Bytes bytes → (run : Run) (r : Option RecordFault) → Read bytes run r → read_fault bytes ≡ r
told bytes h run None r = short_fault bytes None None r.0 (spelled_shape bytes r.1.calls r.1.spells) (held_calls bytes run r.1)
told bytes h run (Some TooLong) r = rw (lt-ltb 4096 (length bytes) r)
told bytes h run (Some (Shape place)) r = short_fault bytes (Some place) _ r.0 (misshapen_shape bytes place h r.1) refl
told bytes h run (Some (Call place fault)) r =
    short_fault bytes None (Some (Call place fault)) r.0 (spelled_shape bytes (r.1.before ++ (r.1.call ∷ r.1.after)) r.1.spells) (refused_call bytes place fault r.1)

-- the run of a reading is what the reader reaches
same_run : (bytes : List ℕ) (run : Run) (r : Option RecordFault) → Read bytes run r → Read bytes (record_run bytes) r
same_run bytes run None r = (r.0, subst (Holds bytes) (held_run bytes run r.1) r.1)
same_run bytes run (Some f) r = r

-- some reading of bytes
abbrev SomeReading : List ℕ → Type 0
SomeReading bytes = (run : Run) × (r : Option RecordFault) × Read bytes run r

-- calls with the end behind them have a reading
read_calls : (bytes : List ℕ) (calls : List Action) → length bytes ≤ 4096 → Spells bytes calls → SomeReading bytes
read_calls bytes calls l s = go (tried nothing calls)
  where
    go : Accepted nothing calls ⊎ Stops nothing calls → SomeReading bytes
    go (inl a) = (led nothing calls, None, (l, record { calls = calls; spells = s; accepted = a; leads = refl }))
    go (inr t) = (
      nothing,
      Some (Call (length (spelled t.before)) t.fault),
      (
        l,
        record {
          before = t.before;
          call = t.call;
          after = t.after;
          spells = s ∙ ap (λ c. spelled c ++ end) t.splits;
          accepted = t.accepted;
          refused = t.refused;
          here = refl;
        },
      ),
    )

-- and so have calls with another rest
read_split : (bytes : List ℕ) → Bytes bytes → length bytes ≤ 4096 → Split bytes → SomeReading bytes
read_split bytes h l s = go (headed s.rest 0 0) refl
  where
    misshapen : (place : ℕ) → Misshapen bytes place → SomeReading bytes
    misshapen place m = (nothing, Some (Shape place), (l, m))

    ended : (more : List ℕ) → s.rest ≡ end ++ more → SomeReading bytes
    ended [] e = read_calls bytes s.calls l (s.splits ∙ ap (λ l. spelled s.calls ++ l) e)
    ended (b ∷ more) e = misshapen (length (spelled s.calls) + 3) (record { calls = s.calls; rest = s.rest; splits = s.splits; fault = inr (b, more, e, refl) })

    wrong : headed s.rest 0 0 ≡ false → Misfit s.rest
    wrong e = record { field = none_begins s.rest s.none; ended = λ more is. absurd (let t = end_headed more in let z : ◌≡◌ {A = ℕ} 0 1 = cc in omega arith) }

    go : (b : Bool) → headed s.rest 0 0 ≡ b → SomeReading bytes
    go true e = ended (drop 3 s.rest) (end_begins s.rest e)
    go false e = misshapen (length (spelled s.calls)) (record { calls = s.calls; rest = s.rest; splits = s.splits; fault = inl (wrong e, refl) })

-- bytes have a reading
read : (bytes : List ℕ) → Bytes bytes → SomeReading bytes
read bytes h = sized (cases_lt 4096 (length bytes))
  where
    sized : (4096 < length bytes) ⊎ (length bytes ≤ 4096) → SomeReading bytes
    sized (inl l) = (nothing, Some TooLong, l)
    sized (inr l) = read_split bytes h l (split (length bytes) bytes h (omega arith))

-- what the reader computes is the reading
pub reading : (bytes : List ℕ) → Bytes bytes → Read bytes (record_run bytes) (read_fault bytes)
reading bytes h =
    let r = read bytes h in
    subst (Read bytes (record_run bytes)) (sym (told bytes h r.0 r.1 r.2)) (same_run bytes r.0 r.1 r.2)

-- a reading has one answer
pub one_reading : (bytes : List ℕ) → Bytes bytes → OneReading bytes
one_reading bytes h run other r s p q = sym (told bytes h run r p) ∙ told bytes h other s q

-- a record holds one run
pub one_run : (bytes : List ℕ) → OneRun bytes
one_run bytes run other p q = held_run bytes run p ∙ sym (held_run bytes other q)

-- what the answer of a check says of the fault behind it
pub faulty_for : (o : Option RecordFault) (f : RecordFault) → Err f ≡ checked o → o ≡ Some f
faulty_for None f h = absurd (let z : ◌≡◌ {A = ℕ} 0 1 = cc in omega arith)
faulty_for (Some g) f h = cc

pub not_faulty : (o : Option RecordFault) (u : Unit {0}) → Ok u ≡ checked o → o ≡ None
not_faulty None u h = refl
not_faulty (Some g) u h = absurd (let z : ◌≡◌ {A = ℕ} 0 1 = cc in omega arith)
