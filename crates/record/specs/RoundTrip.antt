-- What is written is read back. Assumes nothing.
use Rattle.std.specs.Prelude.{◌≡◌, ℕ, ◌≤◌, None}
use Rattle.bench.specs.Keeps.{Orderly}
use Rattle.run.specs.Runs.{Run}
use Rattle.record.specs.Readings.{Read}
use Rattle.record.specs.Writing.{record_bytes}

-- nothing stands at a number above 31
abbrev pub Confined : Run → Type 0
Confined run = (n : ℕ) → 32 ≤ n → run n ≡ None

-- what is written of the run is read as a record that holds the run
abbrev pub ReadsBack : Run → Type 0
ReadsBack run = Read (record_bytes run) run None

-- so for every orderly run
abbrev pub RoundTrip : Type 0
RoundTrip = (run : Run) → Orderly run → Confined run → ReadsBack run
