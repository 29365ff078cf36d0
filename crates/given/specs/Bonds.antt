-- Relations made by a test of two events, row by row. Assumes nothing.
use Rattle.std.specs.Prelude.{◌≡◌, ℕ, ◌<◌, Bool, None, List, length, slice_index}
use denote.Ref.{Bor}
use Rattle.std.specs.Fn.{Shared, FnReturns}
use Rattle.run.specs.declared.event.Event.{Event}
use Rattle.run.specs.Runs.{Run, Stands}
use Rattle.run.specs.Masks.{Gathered}

-- of the event e at number a and another event f the test may give this answer
pub record Answers {F : Type 0} (g : Shared F (ℕ × (Bor Event × (Bor Event × Unit {0}))) Bool) (test : F) (a : ℕ) (e f : Event) (answer : Bool) : Type 0 where
  pub first : Bor Event
  pub second : Bor Event
  pub shows : (first.now ≡ e) × (second.now ≡ f)
  pub says : FnReturns g test (a, (first, (second, tt))) answer

-- a row has the test's answers, where an event stands at its number, and is clear where none does
pub record RowOf (answers : ℕ → Event → Event → Bool → Type 0) (run : Run) (a row : ℕ) : Type 0 where
  pub answered : (e : Event) → Stands run a e → Gathered (answers a e) run row
  pub clear : run a ≡ None → row ≡ 0

-- there are 32 rows, each as above
pub record Bonded (answers : ℕ → Event → Event → Bool → Type 0) (run : Run) (rows : List ℕ) : Type 0 where
  pub long : length rows ≡ 32
  pub each : (a : ℕ) → a < 32 → RowOf answers run a (slice_index rows a)
