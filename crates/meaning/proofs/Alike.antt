-- Tables that relate the same, compared place by place. Assumes nothing.
use Rattle.std.proofs.Common.{◌≡◌, ℕ, ◌<◌, ◌≤◌, Bool, true, false, List, [], length, get_or, take, Decides, refl, sym, ap, ◌∙◌, subst, true≢false, arith}
use mathlib.Core.Path.{subst⁻¹}
use Rattle.std.proofs.lemmas.List.{get_or-take, length-take}
use Rattle.std.proofs.lemmas.Slice.Zip.{get_or-zip, length-zip}
use Rattle.std.specs.List.{zip, AllWithin, HoldsAt}
use Rattle.std.specs.Bool.{MatchBool}
use Rattle.relation.specs.declared.relation.Relation.{Relation}
use Rattle.relation.specs.Relations.{SamePairs}
use Rattle.relation.specs.Masks.{Related}
use Rattle.meaning.specs.Systems.{rows_at, Table}

-- two relations side by side relate the same
abbrev pub AlikePair : Relation × Relation → Type 0
AlikePair p = SamePairs (Related p.0.rows) (Related p.1.rows)

-- what was found of a list of pairs, said of the rows at its places
pairs_decide : (r : Bool) (ps : List (Relation × Relation)) (m : ℕ) (at : ℕ → List ℕ × List ℕ) (d : Relation × Relation) → length ps ≡ m
    → ((i : ℕ) → i < m → ◌≡◌ {A = List ℕ × List ℕ} ((get_or ps i d).0.rows, (get_or ps i d).1.rows) (at i))
    → MatchBool r (AllWithin AlikePair ps 0 (length ps)) ((k : ℕ) × (k < length ps) × HoldsAt (λ p. AlikePair p → ⊥) ps k)
    → Decides r ((i : ℕ) → i < m → SamePairs (Related (at i).0) (Related (at i).1))
pairs_decide true ps m at d long e h = (λ _ i l. subst (λ p. SamePairs (Related p.0) (Related p.1)) (e i l) (h i d (omega arith) (omega (arith, long))), λ _. refl)
pairs_decide false ps m at d long e h = (
  λ z. absurd (true≢false (sym z)),
  λ s. let l : h.0 < m = omega (arith, h.1, long) in absurd (h.2 d (subst⁻¹ (λ p. SamePairs (Related p.0) (Related p.1)) (e h.0 l) (s h.0 l))),
)

-- all of so many were compared, or one pair that differs was found
pub alike_all : (n m : ℕ) (xs ys : List Relation) (r : Bool) → n ≡ m → n ≤ length xs → n ≤ length ys
    → MatchBool r (AllWithin AlikePair (take n (zip xs ys)) 0 (length (take n (zip xs ys)))) ((k : ℕ) × (k < length (take n (zip xs ys))) × HoldsAt (λ p. AlikePair p → ⊥) (take n (zip xs ys)) k)
    → Decides r ((i : ℕ) → i < m → SamePairs (Table xs i) (Table ys i))
alike_all n m xs ys r e lx ly h =
    let d : Relation = record { rows = [] } in
    let long : length (take n (zip xs ys)) ≡ n = omega (arith, length-take n (zip xs ys), length-zip xs ys) in
    pairs_decide r (take n (zip xs ys)) m (λ i. (rows_at xs i, rows_at ys i)) (d, d) (long ∙ e)
    (λ i l. ap (λ p. (p.0.rows, p.1.rows)) (get_or-take n (zip xs ys) i (d, d) (omega (arith, l, e)) ∙ get_or-zip xs ys i (d, d) (omega (arith, l, e)) (omega (arith, l, e)))) h
