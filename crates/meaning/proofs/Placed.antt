-- Tables of relations, and the places of lists. Assumes nothing.
use Rattle.std.specs.Prelude.{◌≡◌, ℕ, zero, suc, ◌+◌, ◌<◌, ◌≤◌, ◌&&◌, List, [], ◌∷◌, map, length, replicate, ◌==◌, nat_lt, slice_index, slice_index_or, slice_set, refl}
use Rattle.std.proofs.Common.{sym, ◌∙◌, ap, inl, inr, ⊎_elim, arith}
use Rattle.std.proofs.Math.Path.{subst⁻¹}
use Rattle.std.proofs.Math.Logic.Iff
use Rattle.std.proofs.lemmas.List.{get_or-replicate, get_or-set_same, get_or-set_other, length-set}
use Rattle.std.proofs.lemmas.Bool.{cases_eq, and_parts, and_from, ltb-true, lt-ltb, eqb-true, eq-eqb}
use Rattle.finite.specs.Lists.{At}
use Rattle.relation.specs.declared.relation.Relation.{Relation}
use Rattle.relation.specs.Relations.{Pairs, Union, SamePairs}
use Rattle.relation.specs.Masks.{bit, Related, Shows}
use Rattle.meaning.specs.Groups.{Candidates, told}
use Rattle.meaning.specs.Systems.{rows_at, Table}

-- a table of one relation, so many times
pub table_all : (P : List ℕ → Type 0) (n : ℕ) (r : Relation) → P r.rows → (i : ℕ) → i < n → P (rows_at (replicate n r) i)
table_all P n r p i l = subst⁻¹ (λ x. P x.rows) (get_or-replicate n i r (record { rows = [] }) l) p

-- a union with rows that show the second relation
pub union_as : {xs ys zs : List ℕ} {R : Pairs} → Shows zs (Union (Related xs) (Related ys)) → SamePairs (Related ys) R → Shows zs (Union (Related xs) R)
union_as s h =
    record {
      long = s.long;
      fits = s.fits;
      same = λ a b. Iff.trans (s.same a b) (⊎_elim inl (λ y. inr ((h a b).0 y)), ⊎_elim inl (λ y. inr ((h a b).1 y)));
    }

-- the slots below the place are filled, and the others as they were
pub record Filling (n : ℕ) (old found : List Relation) (R : ℕ → Pairs) : Type 0 where
  pub long : length found ≡ 64
  pub new : (i : ℕ) → i < n → Shows (rows_at found i) (R i)
  pub rest : (i : ℕ) → n ≤ i → rows_at found i ≡ rows_at old i

-- before the first slot
pub filling_none : (old found : List Relation) (R : ℕ → Pairs) → found ≡ old → length found ≡ 64 → Filling 0 old found R
filling_none old found R e long = record { long = long; new = λ i l. absurd (omega arith); rest = λ i l. ap (λ xs. rows_at xs i) e }

-- after one more slot
pub filling_more : (n : ℕ) (old found : List Relation) (r : Relation) (R : ℕ → Pairs) → n < 64 → Filling n old found R → Shows r.rows (R n) → Filling (n + 1) old (slice_set found n r) R
filling_more n old found r R l f s =
    record {
      long = length-set found n r ∙ f.long;
      new = λ i k.
          ⊎_elim
          (λ e. subst⁻¹ (λ j. Shows (rows_at (slice_set found n r) j) (R j)) e (subst⁻¹ (λ x. Shows x.rows (R n)) (get_or-set_same found n r (record { rows = [] }) (omega (arith, f.long))) s))
          (λ ne. subst⁻¹ (λ x. Shows x.rows (R i)) (get_or-set_other found n i r (record { rows = [] }) ne) (f.new i (omega arith)))
          (cases_eq i n);
      rest = λ i k.
          let ne : i ≡ n → ⊥ = λ e. omega (arith, e) in
          ap (λ x. x.rows) (get_or-set_other found n i r (record { rows = [] }) ne) ∙ f.rest i (omega arith);
    }

-- the relations of a table as data
abbrev pub candidates : List Relation → Candidates
candidates found j a b = nat_lt a 32 && (nat_lt b 32 && bit (slice_index (rows_at found j) a) b == 1)

pub candidates_are : (found : List Relation) (j : ℕ) → SamePairs (Table found j) (told (candidates found) j)
candidates_are found j a b =
    let x = bit (slice_index (rows_at found j) a) b in (
      λ r. and_from (nat_lt a 32) (nat_lt b 32 && x == 1) (lt-ltb a 32 r.within) (and_from (nat_lt b 32) (x == 1) (lt-ltb b 32 r.there.within) (eq-eqb x 1 r.there.raised)),
      λ e.
          let h = and_parts (nat_lt a 32) (nat_lt b 32 && x == 1) e in
          let k = and_parts (nat_lt b 32) (x == 1) h.1 in
          record { within = ltb-true a 32 h.0; there = record { within = ltb-true b 32 k.0; raised = eqb-true x 1 k.1 } },
    )

module _ {A : Type 0} where
  -- what stands in a list stands below its length
  pub at_below : (xs : List A) (i : ℕ) (x : A) → At xs i x → i < length xs
  at_below [] i x h = absurd h
  at_below (y ∷ ys) zero x h = omega arith
  at_below (y ∷ ys) (suc i) x h = omega (arith, at_below ys i x h)

  -- only one thing stands at a place
  pub at_only : (xs : List A) (i : ℕ) (x y : A) → At xs i x → At xs i y → x ≡ y
  at_only [] i x y h k = absurd h
  at_only (z ∷ zs) zero x y h k = h ∙ sym k
  at_only (z ∷ zs) (suc i) x y h k = at_only zs i x y h k

-- what is read at a place stands there in the mapped list
pub at_map : {A B : Type 0} (f : A → B) (xs : List A) (i : ℕ) (d : A) → i < length xs → At (map f xs) i (f (slice_index_or xs i d))
at_map f [] i d l = absurd (omega arith)
at_map f (y ∷ ys) zero d l = refl
at_map f (y ∷ ys) (suc i) d l = at_map f ys i d (omega arith)
