-- What it means to read a record: when it is refused, and which run it holds. Assumes nothing.
use Rattle.std.specs.Prelude.{◌≡◌, ℕ, ◌+◌, ◌<◌, ◌≤◌, ◌⊎◌, List, [], ◌∷◌, ◌++◌, length, Some, None, Ok, Err, Option, ◌≢◌}
use Rattle.bench.specs.declared.action.Action.{Action}
use Rattle.bench.specs.declared.fault.BenchFault.{BenchFault}
use Rattle.bench.specs.Refusals.{Answers}
use Rattle.run.specs.Runs.{Run, nothing}
use Rattle.bench.specs.Steps.{taken, led}
use Rattle.record.specs.declared.fault.RecordFault.{RecordFault}
use Rattle.record.specs.declared.fault.RecordFault.TheVariants.{TooLong, Shape, Call}
use Rattle.record.specs.Format.{spell, spelled, end, Spells}

-- neither a call's field nor the end begins here
pub record Misfit (rest : List ℕ) : Type 0 where
  pub field : (a : Action) (more : List ℕ) → rest ≢ spell a ++ more
  pub ended : (more : List ℕ) → rest ≢ end ++ more

-- the first field that is cut, wrong, missing or past the end stands at the place
pub record Misshapen (bytes : List ℕ) (place : ℕ) : Type 0 where
  -- before it stand the fields of calls
  pub calls : List Action
  pub rest : List ℕ
  pub splits : bytes ≡ spelled calls ++ rest
  -- it is no field there; or the end stands there, and a byte behind it
  pub fault : (Misfit rest × (place ≡ length (spelled calls))) ⊎ ((b : ℕ) × (more : List ℕ) × (rest ≡ end ++ (b ∷ more)) × (place ≡ length (spelled calls) + 3))

-- no call is refused, one after another from a run on
abbrev pub Accepted : Run → List Action → Type 0
Accepted run [] = Unit {0}
Accepted run (a ∷ more) = Answers run a (Ok tt) × Accepted (taken run a) more

-- the first field whose call the bench refuses stands at the place
pub record Refused (bytes : List ℕ) (place : ℕ) (fault : BenchFault) : Type 0 where
  pub before : List Action
  pub call : Action
  pub after : List Action
  pub spells : Spells bytes (before ++ (call ∷ after))
  pub accepted : Accepted nothing before
  pub refused : Answers (led nothing before) call (Err fault)
  pub here : place ≡ length (spelled before)

-- the bytes are a record, and its calls lead a new bench to this run
pub record Holds (bytes : List ℕ) (run : Run) : Type 0 where
  pub calls : List Action
  pub spells : Spells bytes calls
  pub accepted : Accepted nothing calls
  pub leads : run ≡ led nothing calls

-- the refusal applies: over 4,096 bytes; else the shape of a field; else the call of a field
abbrev pub Faulty : List ℕ → RecordFault → Type 0
Faulty bytes TooLong = 4096 < length bytes
Faulty bytes (Shape place) = (length bytes ≤ 4096) × Misshapen bytes place
Faulty bytes (Call place fault) = (length bytes ≤ 4096) × Refused bytes place fault

-- the answer of a reading, with the run that the reader then shows
abbrev pub Read : List ℕ → Run → Option RecordFault → Type 0
Read bytes run None = (length bytes ≤ 4096) × Holds bytes run
Read bytes run (Some f) = Faulty bytes f

-- a reading has one answer
abbrev pub OneReading : List ℕ → Type 0
OneReading bytes = (run other : Run) (r s : Option RecordFault) → Read bytes run r → Read bytes other s → r ≡ s

-- a record holds one run
abbrev pub OneRun : List ℕ → Type 0
OneRun bytes = (run other : Run) → Holds bytes run → Holds bytes other → run ≡ other
