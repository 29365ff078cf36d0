-- What the names of a group mean to its terms while they are solved for. Assumes nothing.
use Rattle.std.proofs.Common.{◌≡◌, ℕ, zero, suc, ◌+◌, ◌<◌, ◌≤◌, min, List, [], ◌∷◌, ◌++◌, map, length, get_or, take, sym, ap, ◌∙◌, subst, ⊎_elim, arith}
use mathlib.Core.Path.{subst⁻¹}
use mathlib.Core.Logic.Iff
use lib.ListN.{length-map}
use Rattle.std.proofs.lemmas.List.{get_or-take, length-take}
use Rattle.std.proofs.lemmas.Bool.{cases_lt}
use Rattle.finite.specs.Lists.{At}
use Rattle.relation.specs.declared.relation.Relation.{Relation}
use Rattle.relation.specs.declared.value.Value.{Value}
use Rattle.relation.specs.Relations.{Pairs, Never, SamePairs}
use Rattle.relation.specs.Masks.{Related, Shows}
use Rattle.relation.specs.Values.{of_pairs, Means}
use Rattle.term.specs.Statements.{Binding}
use Rattle.given.specs.Bases.{Same, base_meaning}
use Rattle.meaning.specs.Operators.{pairs_of}
use Rattle.meaning.specs.Meanings.{meaning}
use Rattle.meaning.specs.Groups.{as_meanings}
use Rattle.meaning.specs.Tables.{value_meaning, relation_meaning}
use Rattle.meaning.specs.Systems.{System, Table, before, names, Body, slots}
use Rattle.meaning.specs.Sameness.{same_trans, pairs_same}
use Rattle.meaning.proofs.Operated.{means_same}
use Rattle.meaning.specs.Rising.{never, past_at, path_same, length_names, behind_same}
use Rattle.meaning.specs.Solved.{no_rows, table_past}
use Rattle.meaning.proofs.Evaluated.{meaning_same}
use Rattle.meaning.proofs.Placed.{at_only, at_below}

-- the relations of a table, as the names of its places
pub table_at : (rs : List Relation) (j : ℕ) → Same (get_or (map relation_meaning rs) j never) (of_pairs (Table rs j))
table_at [] j = λ a b. (λ x. absurd x, λ x. no_rows {a = a} {b = b} x)
table_at (r ∷ rs) zero = λ a b. (λ x. x, λ x. x)
table_at (r ∷ rs) (suc j) = table_at rs j

-- the name of a binding
pub as_at : (R : ℕ → Pairs) (k : ℕ) (bs : List Binding) (j : ℕ) → j < length bs → get_or (as_meanings R k bs) j never ≡ of_pairs (R (k + j))
unfolding as_meanings
as_at R k [] j l = absurd (omega arith)
as_at R k (b ∷ bs) zero l = ap (λ n. of_pairs (R n)) (let z : k ≡ k + 0 = omega arith in z)
as_at R k (b ∷ bs) (suc j) l = as_at R (k + 1) bs j (omega arith) ∙ ap (λ n. of_pairs (R n)) (let z : k + 1 + j ≡ k + suc j = omega arith in z)

-- the front of a table, as long as the group has names
front_same : (found : List Relation) (n c : ℕ) → length found ≡ 64 → c ≡ min n 64 → (j : ℕ) → j < n → SamePairs (Table (take c found) j) (Table found j)
front_same found n c long e j l =
    ⊎_elim
    (λ k a b.
    let same = ap (λ r. r.rows) (get_or-take c found j (record { rows = [] }) k) in
    (subst (λ rows. Related rows a b) same, subst⁻¹ (λ rows. Related rows a b) same))
    (λ k a b.
    (λ x. absurd (table_past (take c found) j (omega (arith, length-take c found)) {a = a} {b = b} x), λ x. absurd (table_past found j (omega (arith, long)) {a = a} {b = b} x)))
    (cases_lt j c)

pub front_names : (found : List Relation) (bs : List Binding) (c : ℕ) → length found ≡ 64 → c ≡ min (length bs) 64 → (j : ℕ) → Same (get_or (map relation_meaning (take c found)) j never) (get_or (as_meanings (Table found) 0 bs) j never)
front_names found bs c long e j =
    ⊎_elim
    (λ l.
    let there : of_pairs (Table found j) ≡ get_or (as_meanings (Table found) 0 bs) j never = ap (λ n. of_pairs (Table found n)) (let z : j ≡ 0 + j = omega arith in z) ∙ sym (as_at (Table found) 0 bs j l) in
    same_trans (get_or (map relation_meaning (take c found)) j never) (of_pairs (Table (take c found) j)) (get_or (as_meanings (Table found) 0 bs) j never) (table_at (take c found) j)
    (subst (λ m. Same (of_pairs (Table (take c found) j)) m) there (front_same found (length bs) c long e j l)))
    (λ l.
    path_same
    (past_at (map relation_meaning (take c found)) j (omega (arith, length-map (take c found) relation_meaning, length-take c found))
    ∙ sym (past_at (as_meanings (Table found) 0 bs) j (omega (arith, length_names (Table found) 0 bs)))))
    (cases_lt j (length bs))

-- the value of a binding's term is what its equation gives
pub value_body : (s : System) (found : List Relation) (c j : ℕ) (x : Binding) (v : Value) {rows : List ℕ} → length found ≡ 64 → c ≡ slots s → At s.bindings j x → Means v (meaning (base_meaning s.base) (before s ++ map relation_meaning (take c found)) x.term) → SamePairs (Related rows) (pairs_of (value_meaning v)) → SamePairs (Related rows) (Body s (Table found) j)
value_body s found c j x v long e h m p a b =
    let base = base_meaning s.base in
    let ns = before s ++ map relation_meaning (take c found) in
    let ms = names s (Table found) in
    let q =
    pairs_same (value_meaning v) (meaning base ms x.term)
    (same_trans (value_meaning v) (meaning base ns x.term) (meaning base ms x.term) (means_same v (meaning base ns x.term) m)
    (meaning_same base ns ms (behind_same (before s) (map relation_meaning (take c found)) (as_meanings (Table found) 0 s.bindings) (front_names found s.bindings c long e)) x.term)) in
    Iff.trans (p a b) (
      λ r. (x, h, (q a b).0 r),
      λ r. (q a b).1 (subst (λ y. pairs_of (meaning base ms y.term) a b) (at_only s.bindings j r.0 x r.1 h) r.2),
    )

-- a place without a binding has nothing
pub nothing_body : (s : System) (R : ℕ → Pairs) (j : ℕ) {rows : List ℕ} → length s.bindings ≤ j → Shows rows Never → SamePairs (Related rows) (Body s R j)
nothing_body s R j l h a b = (λ r. absurd ((h.same a b).0 r), λ r. absurd (let z = at_below s.bindings j r.0 r.1 in omega arith))
