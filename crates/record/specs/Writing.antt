-- Writing a bench as a record. Assumes nothing.
use Rattle.std.specs.Prelude.{◌≡◌, ℕ, zero, suc, ◌+◌, ◌<◌, Bool, true, false, List, [], ◌∷◌, ◌++◌, length, take, drop, slice_index_or, Some, None, Ok, Err, Option, Result}
use Rattle.run.specs.declared.event.Event.{Event}
use Rattle.bench.specs.declared.action.Action.{Action}
use Rattle.bench.specs.declared.action.Action.TheVariants.{Enter, Tie, Settle}
use Rattle.run.specs.Runs.{Run}
use Rattle.record.specs.Format.{spell, spelled, end}
use Rattle.record.specs.declared.fault.WriteFault.{WriteFault}

-- the call that enters an event
abbrev pub entering : ℕ → Event → Action
entering n e = Enter (record { number = n; kind = e.kind; thread = e.thread; step = e.step; location = e.location; value = e.value })

-- the call that ties an event, if it has a source
abbrev pub tying : ℕ → Option ℕ → Option Action
tying n None = None
tying n (Some w) = Some (Tie n w)

-- the call that settles an event, if it is settled
abbrev pub settling : ℕ → Bool → Option Action
settling n false = None
settling n true = Some (Settle n)

-- the stages in which a run is written: what each writes, by event number
pub data Stage : Type 0 where
  Entries : Stage
  Ties : Stage
  Settlings : Stage

-- the call of a stage for the event at a number
abbrev pub call_of : Stage → ℕ → Option Event → Option Action
call_of Entries n None = None
call_of Entries n (Some e) = Some (entering n e)
call_of Ties n None = None
call_of Ties n (Some e) = tying n e.source
call_of Settlings n None = None
call_of Settlings n (Some e) = settling n e.settled

-- one more call, if there is one
abbrev pub also : List Action → Option Action → List Action
also calls None = calls
also calls (Some a) = calls ++ (a ∷ [])

-- the calls of a stage for the events below a number, by number
unfoldable pub calls_below : Stage → Run → ℕ → List Action
calls_below stage run zero = []
calls_below stage run (suc n) = also (calls_below stage run n) (call_of stage n (run n))

-- what the writer writes: events by number, ties by read, settlings by number
abbrev pub written : Run → List Action
written run = calls_below Entries run 32 ++ (calls_below Ties run 32 ++ calls_below Settlings run 32)

-- the record of a run: those calls, then the end
abbrev pub record_bytes : Run → List ℕ
record_bytes run = spelled (written run) ++ end

-- the field of a call, if there is one
abbrev pub call_bytes : Option Action → List ℕ
call_bytes None = []
call_bytes (Some a) = spell a

-- what is made of what stands at a number: nothing of nothing, and of an event what is given for it
abbrev pub Made : (ℕ → Event → Option Action → Type 0) → ℕ → Option Event → Option Action → Type 0
Made gives n None call = call ≡ None
Made gives n (Some e) call = gives n e call

-- so at each number of a run
abbrev pub MadeOf : (ℕ → Event → Option Action → Type 0) → Run → List (Option Action) → Type 0
MadeOf gives run calls = (n : ℕ) → n < 32 → Made gives n (run n) (slice_index_or calls n None)

-- the fields of a stage for the events below a number
abbrev pub stage_bytes : Stage → Run → ℕ → List ℕ
stage_bytes stage run n = spelled (calls_below stage run n)

-- bytes with a text written over them from a place on
unfoldable pub pasted : List ℕ → ℕ → List ℕ → List ℕ
pasted bytes at text = take at bytes ++ (text ++ drop (at + length text) bytes)

-- a text was written from a place on, and the next place is behind it
pub record Placed (before : List ℕ) (from : ℕ) (text : List ℕ) (next : ℕ) (after : List ℕ) : Type 0 where
  pub stands : after ≡ pasted before from text
  pub behind : next ≡ from + length text

-- the answer of a writing: the record, its length told and the bytes past it as they were; or nothing, where it does not fit
abbrev pub Wrote : Run → List ℕ → List ℕ → Result ℕ WriteFault → Type 0
Wrote run before after (Ok n) = (n ≡ length (record_bytes run)) × (after ≡ record_bytes run ++ drop n before)
Wrote run before after (Err f) = (f.needed ≡ length (record_bytes run)) × (length before < f.needed) × (after ≡ before)
