-- The given sets and relations as data, and that they are those of a run and an order. Assumes nothing.
use Rattle.run.specs.Runs.{Run}
use Rattle.coherence.specs.Coherence.{Order}
use Rattle.relation.specs.Sets.{SameEvents}
use Rattle.relation.specs.Relations.{Never, Identity, SamePairs}
use Rattle.relation.specs.Masks.{Member, Related}
use Rattle.relation.specs.Values.{Meaning, of_events, of_pairs}
use Rattle.term.specs.declared.term.Given.{Given}
use Rattle.term.specs.declared.term.Given.TheVariants as given
use Rattle.given.specs.declared.base.Base.{Base}
use Rattle.given.specs.Givens.{given_meaning}

-- what each given name means by its mask or its rows
abbrev pub base_meaning : Base → Given → Meaning
base_meaning b given.Universe = of_events (Member b.universe)
base_meaning b given.NoPairs = of_pairs Never
base_meaning b given.NoEvents = of_events (λ n. ⊥)
base_meaning b given.Reads = of_events (Member b.reads)
base_meaning b given.Writes = of_events (Member b.writes)
base_meaning b given.Fences = of_events (Member b.fences)
base_meaning b given.Branches = of_events (Member b.branches)
base_meaning b given.Memory = of_events (Member b.memory)
base_meaning b given.Initial = of_events (Member b.initial)
base_meaning b given.Settled = of_events (Member b.settled)
base_meaning b given.ProgramOrder = of_pairs (Related b.program_order.rows)
base_meaning b given.ReadsFrom = of_pairs (Related b.reads_from.rows)
base_meaning b given.SameLocation = of_pairs (Related b.same_location.rows)
base_meaning b given.OtherThread = of_pairs (Related b.other_thread.rows)
base_meaning b given.Identity = of_pairs (Identity (Member b.universe))
base_meaning b given.Coherence = of_pairs (Related b.coherence.rows)

-- two meanings of one kind with the same events or pairs
abbrev pub Same : Meaning → Meaning → Type 0
Same (of_events A) (of_events B) = SameEvents A B
Same (of_events A) (of_pairs R) = ⊥
Same (of_pairs R) (of_events A) = ⊥
Same (of_pairs R) (of_pairs S) = SamePairs R S

-- the data are those of the run and the order
abbrev pub BaseOf : Run → Order → Base → Type 0
BaseOf run co b = (g : Given) → Same (base_meaning b g) (given_meaning run co g)
