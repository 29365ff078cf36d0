-- An operator on two values of one kind: one on sets, one on relations. Assumes nothing.
use Rattle.std.specs.Prelude.{◌≡◌, ℕ}
use Rattle.relation.specs.declared.relation.Relation.{Relation}
use Rattle.relation.specs.declared.value.Value.{Value}
use Rattle.relation.specs.declared.value.Kind.{Kind}
use Rattle.relation.specs.declared.value.Kind.TheVariants.{Events as is_events, Pairs as is_pairs}
use Rattle.relation.specs.Sets.{SameEvents}
use Rattle.relation.specs.Relations.{SamePairs}
use Rattle.relation.specs.Masks.{Member, Related}
use Rattle.relation.specs.Values.{of_events, of_pairs, Means}
use Rattle.meaning.specs.Operators.{events_of, pairs_of}
use Rattle.meaning.specs.Tables.{value_meaning}

-- the operator on sets made the result of the masks of two sets
pub record OfSets (sets : ℕ → ℕ → ℕ → Type 0) (left right result : Value) : Type 0 where
  pub second : ℕ
  pub made : ℕ
  pub events : SameEvents (Member second) (events_of (value_meaning right))
  pub gives : sets left.mask second made
  pub is : Means result (of_events (Member made))

-- the operator on relations made it of the rows of two relations
pub record OfRelations (relations : Relation → Relation → Relation → Type 0) (left right result : Value) : Type 0 where
  pub first : Relation
  pub second : Relation
  pub made : Relation
  pub rows : first.rows ≡ left.rows
  pub pairs : SamePairs (Related second.rows) (pairs_of (value_meaning right))
  pub gives : relations first second made
  pub is : Means result (of_pairs (Related made.rows))

-- the one of the kind of the first value
abbrev pub by_kind : Kind → Type 0 → Type 0 → Type 0
by_kind is_events P Q = P
by_kind is_pairs P Q = Q

abbrev pub OfOneKind : (ℕ → ℕ → ℕ → Type 0) → (Relation → Relation → Relation → Type 0) → Value → Value → Value → Type 0
OfOneKind sets relations left right result = by_kind left.kind (OfSets sets left right result) (OfRelations relations left right result)
