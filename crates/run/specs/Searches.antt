-- The answer of a search among the events of a run. Assumes nothing.
use Rattle.std.specs.Prelude.{◌≡◌, ℕ, Bool, true, false}
use Rattle.run.specs.declared.event.Event.{Event}
use Rattle.run.specs.Runs.{Run, Stands}

-- what a search by a test found among the standing events
pub record Searched (answers : Event → Bool → Type 0) (run : Run) (found : Bool) : Type 0 where
  -- an event of which the test came out true
  pub some : found ≡ true → (n : ℕ) × (e : Event) × Stands run n e × answers e true
  -- or none: it came out false of each
  pub none : found ≡ false → (n : ℕ) (e : Event) → Stands run n e → answers e false
