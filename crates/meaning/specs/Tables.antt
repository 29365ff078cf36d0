-- Values and tables of values as meanings. Assumes nothing.
use Rattle.std.specs.Prelude.{ℕ, List, [], ◌∷◌}
use Rattle.relation.specs.declared.relation.Relation.{Relation}
use Rattle.relation.specs.declared.value.Value.{Value}
use Rattle.relation.specs.declared.value.Kind.{Kind}
use Rattle.relation.specs.declared.value.Kind.TheVariants.{Events as is_events, Pairs as is_pairs}
use Rattle.relation.specs.Masks.{Member, Related}
use Rattle.relation.specs.Values.{Meaning, of_events, of_pairs, Means}

-- what a mask and rows mean under a tag
abbrev pub meaning_by : Kind → ℕ → List ℕ → Meaning
meaning_by is_events mask rows = of_events (Member mask)
meaning_by is_pairs mask rows = of_pairs (Related rows)

-- what a value means: its mask or its rows, by its tag
abbrev pub value_meaning : Value → Meaning
value_meaning v = meaning_by v.kind v.mask v.rows

-- what a relation means
abbrev pub relation_meaning : Relation → Meaning
relation_meaning r = of_pairs (Related r.rows)

-- values and meanings, as many, each value with its meaning
unfoldable pub AllMean : List Value → List Meaning → Type 0
AllMean [] [] = Unit {0}
AllMean [] (m ∷ ms) = ⊥
AllMean (v ∷ vs) [] = ⊥
AllMean (v ∷ vs) (m ∷ ms) = Means v m × AllMean vs ms
