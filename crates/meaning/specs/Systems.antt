-- A let rec group as equations over data, and their least solution. Assumes nothing.
use Rattle.std.specs.Prelude.{◌≡◌, ℕ, ◌≤◌, min, List, [], ◌++◌, map, length, slice_index_or}
use Rattle.finite.specs.Lists.{At}
use Rattle.relation.specs.declared.relation.Relation.{Relation}
use Rattle.relation.specs.declared.value.Value.{Value}
use Rattle.relation.specs.Relations.{Pairs, Inside}
use Rattle.relation.specs.Masks.{Related}
use Rattle.relation.specs.Values.{Meaning}
use Rattle.term.specs.Statements.{Binding}
use Rattle.term.specs.Recursion.{group_denied}
use Rattle.given.specs.declared.base.Base.{Base}
use Rattle.given.specs.Bases.{base_meaning}
use Rattle.meaning.specs.Operators.{pairs_of}
use Rattle.meaning.specs.Meanings.{meaning}
use Rattle.meaning.specs.Groups.{Candidates, told, as_meanings, Solves, least}
use Rattle.meaning.specs.Tables.{value_meaning}

-- the bindings of a group, what is given, and the values known before the group
pub record System : Type 0 where
  pub base : Base
  pub known : List Value
  pub bindings : List Binding

-- the rows at a place of a table; past its end, none
abbrev pub rows_at : List Relation → ℕ → List ℕ
rows_at table i = (slice_index_or table i (record { rows = [] })).rows

-- the relations of a table
abbrev pub Table : List Relation → ℕ → Pairs
Table table i = Related (rows_at table i)

-- what the values known before a group mean
abbrev pub before : System → List Meaning
before s = map value_meaning s.known

-- what the names mean that a term of the group can have
abbrev pub names : System → (ℕ → Pairs) → List Meaning
names s R = before s ++ as_meanings R 0 s.bindings

-- what the equation of a name gives, where the names of the group mean some relations
abbrev pub Body : System → (ℕ → Pairs) → ℕ → Pairs
Body s R j a b = (x : Binding) × At s.bindings j x × pairs_of (meaning (base_meaning s.base) (names s R) x.term) a b

-- no name of the group is denied in it
abbrev pub Positive : System → Type 0
Positive s = group_denied (length s.known) (length s.bindings) s.bindings ≡ []

-- how many names are solved for
abbrev pub slots : System → ℕ
slots s = min (length s.bindings) 64

-- where no name is denied, of at most 64 names: a solution, within every solution, and so the least
pub record Least (s : System) (found : List Relation) : Type 0 where
  pub long : length found ≡ 64
  pub solution : Positive s → length s.bindings ≤ 64 → Solves (base_meaning s.base) (before s) s.bindings (Table found)
  pub within : Positive s → (x : Candidates) → Solves (base_meaning s.base) (before s) s.bindings (told x) → (j : ℕ) → Inside (Table found j) (told x j)
  pub means : Positive s → length s.bindings ≤ 64 → (j : ℕ) → Inside (Table found j) (least (base_meaning s.base) (before s) s.bindings j)
  pub covers : Positive s → length s.bindings ≤ 64 → (j : ℕ) → Inside (least (base_meaning s.base) (before s) s.bindings j) (Table found j)
