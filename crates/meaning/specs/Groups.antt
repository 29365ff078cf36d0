-- What the bindings of a text mean: a let what its term means, a let rec group its least solution. Assumes nothing.
use Rattle.std.specs.Prelude.{◌≡◌, ℕ, ◌+◌, Bool, true, List, [], ◌∷◌, ◌++◌}
use Rattle.finite.specs.Lists.{At}
use Rattle.relation.specs.Relations.{Pairs, SamePairs}
use Rattle.relation.specs.Values.{Meaning, of_pairs}
use Rattle.term.specs.Statements.{Binding, Statement, lets, groups, checks}
use Rattle.meaning.specs.Operators.{pairs_of}
use Rattle.meaning.specs.Meanings.{Base, meaning}

-- a relation for each name of a group, as data
abbrev pub Candidates : Type 0
Candidates = ℕ → ℕ → ℕ → Bool

-- the relation of one name
abbrev pub told : Candidates → ℕ → Pairs
told x j a b = x j a b ≡ true

-- so many relations, from a number on
unfoldable pub as_meanings : (ℕ → Pairs) → ℕ → List Binding → List Meaning
as_meanings R j [] = []
as_meanings R j (b ∷ bs) = of_pairs (R j) ∷ as_meanings R (j + 1) bs

-- each name of the group is what its term means, with the names of the group known
abbrev pub Solves : Base → List Meaning → List Binding → (ℕ → Pairs) → Type 0
Solves base known bs R = (j : ℕ) (b : Binding) → At bs j b → SamePairs (R j) (pairs_of (meaning base (known ++ as_meanings R 0 bs) b.term))

-- the least solution: what every solution has
abbrev pub least : Base → List Meaning → List Binding → ℕ → Pairs
least base known bs j a b = (x : Candidates) → Solves base known bs (told x) → told x j a b

-- what is known behind a statement
abbrev pub known_after : Base → List Meaning → Statement → List Meaning
known_after base known (lets b) = known ++ (meaning base known b.term ∷ [])
known_after base known (groups bs) = known ++ as_meanings (least base known bs) 0 bs
known_after base known (checks c) = known

-- what all the bindings of a text mean
unfoldable pub bindings_mean : Base → List Meaning → List Statement → List Meaning
bindings_mean base known [] = known
bindings_mean base known (s ∷ ss) = bindings_mean base (known_after base known s) ss
