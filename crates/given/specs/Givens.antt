-- What is given: the predefined sets and relations of a run, with the coherence order under trial. Assumes nothing.
use Rattle.std.specs.Prelude.{◌≡◌, ◌<◌, true, Some, ◌≢◌}
use Rattle.run.specs.declared.event.Event.{Event}
use Rattle.run.specs.Events.{Read, Initial, Write, Memory, Threaded, SamePlace}
use Rattle.run.specs.Runs.{Run, Stands}
use Rattle.relation.specs.Sets.{Events}
use Rattle.relation.specs.Relations.{Pairs, Never, Identity}
use Rattle.relation.specs.Values.{Meaning, of_events, of_pairs}
use Rattle.coherence.specs.Coherence.{Order}
use Rattle.term.specs.declared.term.Given.{Given}
use Rattle.term.specs.declared.term.Given.TheVariants as given

-- the numbers at which an event with the property stands
abbrev pub those : Run → (Event → Type 0) → Events
those run P n = (e : Event) × Stands run n e × P e

-- the pairs of numbers at which events stand that are related so
abbrev pub between : Run → (Event → Event → Type 0) → Pairs
between run P a b = (e : Event) × (f : Event) × Stands run a e × Stands run b f × P e f

-- all standing events
abbrev pub standing : Run → Events
standing run = those run (λ e. Unit {0})

-- from lower to higher step in a thread 1 to 8
abbrev pub program_order : Run → Pairs
program_order run = between run (λ e f. Threaded e × (e.thread ≡ f.thread) × (e.step < f.step))

-- from a source to a read that has it
abbrev pub reads_from : Run → Pairs
reads_from run a b = standing run a × those run (λ f. f.source ≡ Some a) b

-- between reads and writes of one location
abbrev pub same_location : Run → Pairs
same_location run = between run (λ e f. Memory e × Memory f × SamePlace e f)

-- between events of different threads
abbrev pub other_thread : Run → Pairs
other_thread run = between run (λ e f. e.thread ≢ f.thread)

-- the coherence order under trial
abbrev pub ordered : Order → Pairs
ordered co a b = co a b ≡ true

-- what each given name means
abbrev pub given_meaning : Run → Order → Given → Meaning
given_meaning run co given.Universe = of_events (standing run)
given_meaning run co given.NoPairs = of_pairs Never
given_meaning run co given.NoEvents = of_events (λ n. ⊥)
given_meaning run co given.Reads = of_events (those run Read)
given_meaning run co given.Writes = of_events (those run Write)
given_meaning run co given.Fences = of_events (those run (λ e. e.kind ≡ 2))
given_meaning run co given.Branches = of_events (those run (λ e. e.kind ≡ 3))
given_meaning run co given.Memory = of_events (those run Memory)
given_meaning run co given.Initial = of_events (those run Initial)
given_meaning run co given.Settled = of_events (those run (λ e. Write e × (e.settled ≡ true)))
given_meaning run co given.ProgramOrder = of_pairs (program_order run)
given_meaning run co given.ReadsFrom = of_pairs (reads_from run)
given_meaning run co given.SameLocation = of_pairs (same_location run)
given_meaning run co given.OtherThread = of_pairs (other_thread run)
given_meaning run co given.Identity = of_pairs (Identity (standing run))
given_meaning run co given.Coherence = of_pairs (ordered co)
