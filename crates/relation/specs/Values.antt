-- Values of either kind, and what they mean. Assumes nothing.
use Rattle.std.specs.Prelude.{◌≡◌}
use Rattle.relation.specs.declared.value.Value.{Value}
use Rattle.relation.specs.declared.value.Kind.TheVariants.{Events as is_events, Pairs as is_pairs}
use Rattle.relation.specs.Sets.{Events, SameEvents}
use Rattle.relation.specs.Relations.{Pairs, SamePairs}
use Rattle.relation.specs.Masks.{Member, Related}

-- what an expression means: a set of events, or a relation
pub data Meaning : Type 1 where
  of_events : Events → Meaning
  of_pairs : Pairs → Meaning

-- the value has that meaning: its tag says which kind, and its mask or its rows show it
abbrev pub Means : Value → Meaning → Type 0
Means v (of_events A) = (v.kind ≡ is_events) × SameEvents (Member v.mask) A
Means v (of_pairs R) = (v.kind ≡ is_pairs) × SamePairs (Related v.rows) R
