-- Sets gathered from the rows of a relation. Assumes nothing.
use Rattle.std.proofs.Common.{◌≡◌, ℕ, zero, suc, ◌^◌, ◌<◌, Bool, ◌↔◌, List, [], ◌∷◌, length, get_or, Decides, refl, inl, inr, ⊎_elim, arith}
use Rattle.std.specs.List.{fold}
use Rattle.std.specs.Int.Bits.{bit_or}
use Rattle.relation.specs.Bits.{in_or, in_nothing}
use mathlib.Core.Path.{subst⁻¹}
use Rattle.std.proofs.Math.Logic.Iff
use Rattle.std.proofs.lemmas.Bool.Decides.{Decides-like}
use Rattle.relation.specs.Sets.{Events, Either, Single, Gated, Vacant}
use Rattle.relation.specs.Relations.{Pairs, Image, Inverse, Range, Diagonal, Empty, Irreflexive}
use Rattle.relation.specs.Masks.{Member, Related, Marks, Shows}
use Rattle.relation.specs.Marked.{marks_as, or_marks}

-- what the items of a list have
abbrev pub Among : List ℕ → Events
Among xs b = (a : ℕ) × (a < length xs) × Member (get_or xs a 0) b

-- the union of a mask and the items of a list
pub union_all : (xs : List ℕ) (x : ℕ) → x < 2 ^ 32 → ((a : ℕ) → get_or xs a 0 < 2 ^ 32) → Marks (fold bit_or x xs) (Either (Member x) (Among xs))
union_all [] x h f = record { fits = h; same = λ b. (inl, ⊎_elim (λ m. m) (λ k. let l = k.1 in absurd (omega arith))) }
union_all (y ∷ ys) x h f =
    let m = or_marks h (f 0) in
    marks_as _ _ (union_all ys (bit_or x y) m.fits (λ a. f (suc a)))
    (λ b. (
      ⊎_elim (λ p. ⊎_elim inl (λ q. inr (0, omega arith, q)) ((m.same b).0 p)) (λ k. inr (suc k.0, omega (arith, k.1), k.2)),
      ⊎_elim (λ p. inl ((m.same b).1 (inl p))) (λ k. from b k.0 k.1 k.2),
    ))
  where
    from : (b a : ℕ) → a < suc (length ys) → Member (get_or (y ∷ ys) a 0) b → Either (Member (bit_or x y)) (Among ys) b
    from b zero l q = inl ((in_or x y b).1 (inr q))
    from b (suc a) l q = inr (a, omega arith, q)

-- the union of the rows
pub union_rows : (rows : List ℕ) → length rows ≡ 32 → ((a : ℕ) → get_or rows a 0 < 2 ^ 32) → Marks (fold bit_or 0 rows) (Range (Related rows))
union_rows rows long f =
    marks_as _ _ (union_all rows 0 (omega arith) f)
    (λ b. (⊎_elim (λ m. absurd (in_nothing b m)) (λ k. (k.0, record { within = omega (arith, k.1); there = k.2 })), λ h. inr (h.0, omega (arith, h.1.within), h.1.there)))

-- the range of what rows show
pub range_as : (P : Pairs) (A : Events) {rows : List ℕ} {x : ℕ} → ((b : ℕ) → Range P b ↔ A b) → Shows rows P → Marks x (Range (Related rows)) → Marks x A
range_as P A is s m =
    marks_as _ _ m
    (λ b. Iff.trans (λ h. (h.0, (s.same h.0 b).0 h.1), λ h. (h.0, (s.same h.0 b).1 h.1)) (is b))

module _ (rows : List ℕ) where
  -- the pairs of an event in the set
  abbrev pub Chosen : ℕ → Pairs
  Chosen events a b = Member events a × Related rows a b

  -- an event with itself, where it is related to another
  abbrev pub Leading : ℕ → Pairs
  Leading event a n = Related rows a event × (n ≡ a)

  -- an event with itself, where it is related to itself
  abbrev pub Looping : Pairs
  Looping a n = Related rows a a × (n ≡ a)

  -- a row behind its gate
  pub chosen_row : (events a : ℕ) {v : ℕ} → a < 32 → Marks v (Gated (Member events a) (Member (get_or rows a 0))) → Marks v (Chosen events a)
  chosen_row events a l m = marks_as _ _ m (λ b. (λ p. (p.0, record { within = l; there = p.1 }), λ h. (h.0, h.1.there)))

  -- an event behind the gate of its row
  pub leading_row : (event a w : ℕ) {v : ℕ} → a < 32 → Marks w (Single a) → Marks v (Gated (Member (get_or rows a 0) event) (Member w)) → Marks v (Leading event a)
  leading_row event a w l s m =
      marks_as _ _ m
      (λ b. (λ p. (record { within = l; there = p.0 }, (s.same b).0 p.1), λ h. (h.0.there, (s.same b).1 h.1)))

  -- the set leads to its image
  pub chosen : (events b : ℕ) → Range (Chosen events) b ↔ Image (Member events) (Related rows) b
  chosen events b = (λ h. (h.0, h.1.0, h.1.1), λ h. (h.0, (h.1, h.2)))

  -- an event leads to itself
  pub looping : (b : ℕ) → Range Looping b ↔ Diagonal (Related rows) b
  looping b = (λ h. subst⁻¹ (λ k. Related rows k k) h.1.1 h.1.0, λ r. (b, (r, refl)))

  -- an event leads to another
  pub leading : (event b : ℕ) → Range (Leading event) b ↔ Inverse (Related rows) event b
  leading event b = (λ h. subst⁻¹ (λ k. Related rows k event) h.1.1 h.1.0, λ r. (b, (r, refl)))

  -- a relation is empty where its range is
  pub empty_decides : (r : Bool) {x : ℕ} → Marks x (Range (Related rows)) → Decides r (Vacant (Member x)) → Decides r (Empty (Related rows))
  empty_decides r m d = Decides-like r (λ v a b p. v b ((m.same b).1 (a, p))) (λ e b h. let p = (m.same b).0 h in e p.0 b p.1) d

  -- and irreflexive where its diagonal is
  pub irreflexive_decides : (r : Bool) {x : ℕ} → Marks x (Diagonal (Related rows)) → Decides r (Vacant (Member x)) → Decides r (Irreflexive (Related rows))
  irreflexive_decides r m d = Decides-like r (λ v a p. v a ((m.same a).1 p)) (λ e a h. e a ((m.same a).0 h)) d
