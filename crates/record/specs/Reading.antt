-- Reading a record, as the code does it. proofs/ ties it to what the bytes spell. Assumes nothing.
use Rattle.std.specs.Prelude.{ℕ, zero, suc, ◌+◌, ◌*◌, Bool, cond, ◌&&◌, List, [], ◌∷◌, length, drop, sum_by, Some, None, Ok, Err, Option, Result, ◌==◌, nat_le, nat_lt, slice_index}
use Rattle.std.specs.Option.{option_or}
use Rattle.refusal.specs.declared.Refusal.{Refusal}
use Rattle.refusal.specs.declared.Part.TheVariants.{Record, Writer}
use Rattle.bench.specs.declared.action.Action.{Action}
use Rattle.bench.specs.declared.action.Action.TheVariants.{Enter, Tie, Settle}
use Rattle.bench.specs.declared.fault.BenchFault.{BenchFault}
use Rattle.run.specs.Runs.{Run, nothing}
use Rattle.bench.specs.Steps.{taken}
use Rattle.bench.specs.Tests.{refusal}
use Rattle.record.specs.declared.fault.RecordFault.{RecordFault}
use Rattle.record.specs.declared.fault.RecordFault.TheVariants.{TooLong, Shape, Call}
use Rattle.record.specs.Format.{spell}

-- each fault of the reader as it is told
abbrev pub record_refusal : RecordFault → Refusal
record_refusal TooLong = record { number = 20; part = Record; place = 0 }
record_refusal (Shape place) = record { number = 21; part = Record; place = place }
record_refusal (Call place fault) = record { number = 22; part = Record; place = place }

-- the fault of the writer as it is told
abbrev pub writer_refusal : Refusal
writer_refusal = record { number = 24; part = Writer; place = 0 }

-- a whole field with this tag and length begins here
abbrev pub headed : List ℕ → ℕ → ℕ → Bool
headed rest tag long = nat_le (3 + long) (length rest) && (slice_index rest 0 == tag && (slice_index rest 1 == 0 && slice_index rest 2 == long))

-- the call of an event's field
abbrev pub entry_at : List ℕ → Action
entry_at rest =
    Enter
    (record {
      number = slice_index rest 3;
      kind = slice_index rest 4;
      thread = slice_index rest 5;
      step = slice_index rest 6;
      location = slice_index rest 7;
      value = slice_index rest 8 * 16777216 + (slice_index rest 9 * 65536 + (slice_index rest 10 * 256 + slice_index rest 11));
    })

-- the call whose whole field begins the rest of a record, if one does
unfoldable pub call_at : List ℕ → Option Action
call_at rest =
    cond (headed rest 1 9) (Some (entry_at rest))
    (cond (headed rest 2 2) (Some (Tie (slice_index rest 3) (slice_index rest 4)))
    (cond (headed rest 3 1) (Some (Settle (slice_index rest 3))) None))

-- goes on with the call that was found, or ends
abbrev pub onward : {A : Type 0} → Option Action → (Action → A) → A → A
onward (Some a) next ended = next a
onward None next ended = ended

-- the calls whose fields stand one behind another in the rest that begins at a place, each with its place
unfoldable pub placed_calls : ℕ → ℕ → List ℕ → List (ℕ × Action)
placed_calls zero at rest = []
placed_calls (suc turns) at rest = onward (call_at rest) (λ a. (at, a) ∷ placed_calls turns (at + length (spell a)) (drop (length (spell a)) rest)) []

-- those from a place of a record on
abbrev pub calls_from : ℕ → List ℕ → List (ℕ × Action)
calls_from at bytes = placed_calls (length (drop at bytes)) at (drop at bytes)

-- the calls of a record
abbrev pub calls_of : List ℕ → List (ℕ × Action)
calls_of bytes = calls_from 0 bytes

-- the place behind the fields of calls
abbrev pub behind : List (ℕ × Action) → ℕ
behind calls = sum_by (λ (c : ℕ × Action). length (spell c.1)) calls

-- what is wrong with the rest behind the calls, which begins at a place: it is not the end, or bytes stand behind that
abbrev pub unended : ℕ → List ℕ → Option ℕ
unended at rest = cond (headed rest 0 0) (cond (length rest == 3) None (Some (at + 3))) (Some at)

-- the place of the first field that is cut, wrong, missing or past the end
abbrev pub misfit : List ℕ → Option ℕ
misfit bytes = unended (behind (calls_of bytes)) (drop (behind (calls_of bytes)) bytes)

-- goes on where the call is a step, or ends with an answer
abbrev pub unless : {A : Type 0} → Option BenchFault → A → (BenchFault → A) → A
unless None next stopped = next
unless (Some f) next stopped = stopped f

-- the first field whose call is refused
abbrev pub call_fault : Run → List (ℕ × Action) → Option RecordFault
call_fault run [] = None
call_fault run (c ∷ more) = unless (refusal run c.1) (call_fault (taken run c.1) more) (λ f. Some (Call c.0 f))

-- the run that the calls lead to, up to the first that is refused
abbrev pub reached : Run → List (ℕ × Action) → Run
reached run [] = run
reached run (c ∷ more) = unless (refusal run c.1) (reached (taken run c.1) more) (λ f. run)

-- the run of a record's bytes
abbrev pub record_run : List ℕ → Run
record_run bytes = reached nothing (calls_of bytes)

-- the place of a misfit as a fault
abbrev pub shape_fault : Option ℕ → Option RecordFault
shape_fault None = None
shape_fault (Some place) = Some (Shape place)

-- the first listed fault of a record
abbrev pub read_fault : List ℕ → Option RecordFault
read_fault bytes = cond (nat_lt 4096 (length bytes)) (Some TooLong) (option_or (shape_fault (misfit bytes)) (call_fault nothing (calls_of bytes)))

-- a fault, if there is one, as the answer of a check
abbrev pub checked : Option RecordFault → Result (Unit {0}) RecordFault
checked None = Ok tt
checked (Some f) = Err f
