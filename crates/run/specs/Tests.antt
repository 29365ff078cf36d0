-- The rules as tests that compute, for the code. proofs/Rules shows that each test decides its rule. Assumes nothing.
use Rattle.std.specs.Prelude.{◌≡◌, ℕ, zero, suc, ◌<◌, Bool, true, false, not, ◌&&◌, ◌||◌, List, is_some, Some, None, Option, ◌==◌, nat_le, slice_index_or}
use Rattle.run.specs.declared.event.Event.{Event}
use Rattle.run.specs.declared.link.Link.{Link}
use Rattle.run.specs.declared.link.Link.TheVariants.{SameStep, Twin, Source, OtherSettled, OtherWrite, Origin}
use Rattle.run.specs.declared.rule.Rule.{Rule}
use Rattle.run.specs.declared.rule.Rule.TheVariants.{Ranges, Steps, Initials, Sources, Settlings, Initialised, Tied}
use Rattle.run.specs.Runs.{Run, shown, without}

-- the run that a table of 32 answers holds
abbrev pub table_run : List (Option Event) → Run
table_run events n = slice_index_or events n None

-- a test at some number below a bound
unfoldable pub any_below : (ℕ → Bool) → ℕ → Bool
any_below p zero = false
any_below p (suc n) = p n || any_below p n

-- a test of what stands at a number, false where nothing does
abbrev pub holds : Option Event → (Event → Bool) → Bool
holds None p = false
holds (Some e) p = p e

-- the tests of an event's kind
abbrev pub is_read : Event → Bool
is_read e = e.kind == 0

abbrev pub is_initial : Event → Bool
is_initial e = e.kind == 4

abbrev pub is_write : Event → Bool
is_write e = e.kind == 1 || is_initial e

abbrev pub is_memory : Event → Bool
is_memory e = is_read e || is_write e

abbrev pub is_threaded : Event → Bool
is_threaded e = nat_le 1 e.thread && nat_le e.thread 8

abbrev pub same_place : Event → Event → Bool
same_place e f = e.location == f.location

-- the thread and step that an event's kind asks for
abbrev pub well_threaded : Event → Bool
well_threaded e = (is_initial e && (e.thread == 0 && e.step == 0)) || (not (is_initial e) && is_threaded e)

-- the location and value that an event's kind asks for
abbrev pub well_placed : Event → Bool
well_placed e = (is_memory e && nat_le e.location 15) || (not (is_memory e) && (e.location == 0 && e.value == 0))

abbrev pub in_range : Event → Bool
in_range e = nat_le e.kind 4 && (well_threaded e && well_placed e)

-- both of one thread and step
abbrev pub same_step : Event → Event → Bool
same_step e f = e.thread == f.thread && e.step == f.step

-- a write of the location and value of the event e
abbrev pub supplies : Event → Event → Bool
supplies e f = is_write f && (same_place f e && f.value == e.value)

-- the event's source is at this number
abbrev pub sourced_at : Option ℕ → ℕ → Bool
sourced_at None m = false
sourced_at (Some w) m = m == w

-- how the event f at m stands to the event e at n
abbrev pub linked : Link → ℕ → Event → ℕ → Event → Bool
linked SameStep n e m f = not (m == n) && (f.thread == e.thread && f.step == e.step)
linked Twin n e m f = not (m == n) && (is_initial f && same_place f e)
linked Source n e m f = sourced_at e.source m && (is_write f && (same_place f e && f.value == e.value))
linked OtherSettled n e m f = not (m == n) && (is_write f && (f.settled && same_place f e))
linked OtherWrite n e m f = not (m == n) && (is_write f && same_place f e)
linked Origin n e m f = is_initial f && same_place f e

-- some standing event stands so to the event e at n
abbrev pub some_linked : Link → Run → ℕ → Event → Bool
some_linked link run n e = any_below (λ m. holds (run m) (linked link n e m)) 32

-- some standing event passes a test
abbrev pub some : Run → (Event → Bool) → Bool
some run test = any_below (λ m. holds (run m) test) 32

-- another event than the one at n passes a test
abbrev pub some_other : Run → ℕ → (Event → Bool) → Bool
some_other run n test = some (without n run) test

-- another settled write has the location of the event e at n
abbrev pub rivalled : Run → ℕ → Event → Bool
rivalled run n e = some_other run n (λ f. is_write f && (f.settled && same_place f e))

-- settled, and no write or not the only settled one of its location
abbrev pub misplaced : Run → ℕ → Event → Bool
misplaced run n e = e.settled && (not (is_write e) || rivalled run n e)

-- the event e has a source, and is no read or not supplied by it
abbrev pub ill_sourced : Run → Event → Option ℕ → Bool
ill_sourced run e None = false
ill_sourced run e (Some w) = not (is_read e && holds (shown run w) (supplies e))

-- the event e at n breaks the rule
abbrev pub broken : Rule → Run → ℕ → Event → Bool
broken Ranges run n e = not (in_range e)
broken Steps run n e = is_threaded e && some_other run n (λ f. same_step f e)
broken Initials run n e = is_initial e && some_other run n (λ f. is_initial f && same_place f e)
broken Sources run n e = ill_sourced run e e.source
broken Settlings run n e = misplaced run n e || (e.settled && (is_initial e && some_other run n (λ f. is_write f && same_place f e)))
broken Initialised run n e = is_memory e && not (some run (λ f. is_initial f && same_place f e))
broken Tied run n e = is_read e && not (is_some e.source)

-- an event stands at n that breaks the rule
abbrev pub faulty : Rule → Run → ℕ → Bool
faulty rule run n = holds (run n) (broken rule run n)

-- the lowest number below 32 at which a test comes out true
pub record LowestAt (p : ℕ → Bool) (k : ℕ) : Type 0 where
  pub within : k < 32
  pub true_there : p k ≡ true
  pub before : (j : ℕ) → j < k → p j ≡ false

-- the answer of a search over the numbers below 32
abbrev pub Lowest : (ℕ → Bool) → Option ℕ → Type 0
Lowest p None = (j : ℕ) → j < 32 → p j ≡ false
Lowest p (Some k) = LowestAt p k
