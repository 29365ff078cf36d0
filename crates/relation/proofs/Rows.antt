-- Relations made row by row. Assumes nothing.
use Rattle.std.proofs.Common.{◌≡◌, ℕ, zero, suc, ◌+◌, ◌<◌, ◌≤◌, List, [], ◌∷◌, get_or, replicate, sym, refl, ◌∙◌, subst, inl, inr, ⊎_elim, arith}
use mathlib.Core.Path.{subst⁻¹}
use Rattle.std.proofs.lemmas.List.{get_or-replicate, get_or_past}
use Rattle.std.proofs.lemmas.Bool.{cases_eq, cases_lt}
use Rattle.std.specs.Fn.{Mut, Called}
use Rattle.std.specs.List.{FoldsTo}
use Rattle.std.specs.Iterator.{CallableAtEachTurn}
use Rattle.std.specs.Array.{index_steps, IsFromFnResultFrom}
use Rattle.relation.specs.Sets.{Either, Both, Without, Outside, Single, Gated}
use Rattle.relation.specs.Relations.{Pairs, Never, Union, Intersection, Difference, Complement, Identity}
use Rattle.relation.specs.Masks.{Member, Related, Marks, Shows}
use Rattle.relation.specs.Rows.{TakesEvents, RowsBy}
use Rattle.relation.specs.Bits.{in_nothing}
use Rattle.relation.specs.Marked.{marks_as}

-- 32 rows of nothing
abbrev pub blank : List ℕ
blank = replicate 32 0

-- every row of nothing is nothing
pub row_of_nothing : (a : ℕ) → get_or blank a 0 ≡ 0
row_of_nothing a = ⊎_elim (λ l. get_or-replicate 32 a 0 0 l) (λ l. get_or_past blank a 0 l) (cases_lt a 32)

module _ (xs ys : List ℕ) (a : ℕ) (l : a < 32) {v : ℕ} where
  -- a row of a union
  pub union_row : Marks v (Either (Member (get_or xs a 0)) (Member (get_or ys a 0))) → Marks v (Union (Related xs) (Related ys) a)
  union_row m =
      marks_as _ _ m
      (λ b. (⊎_elim (λ p. inl (record { within = l; there = p })) (λ p. inr (record { within = l; there = p })), ⊎_elim (λ r. inl r.there) (λ r. inr r.there)))

  -- a row of an intersection
  pub intersection_row : Marks v (Both (Member (get_or xs a 0)) (Member (get_or ys a 0))) → Marks v (Intersection (Related xs) (Related ys) a)
  intersection_row m =
      marks_as _ _ m
      (λ b. (λ p. (record { within = l; there = p.0 }, record { within = l; there = p.1 }), λ r. (r.0.there, r.1.there)))

  -- a row of a difference
  pub difference_row : Marks v (Without (Member (get_or xs a 0)) (Member (get_or ys a 0))) → Marks v (Difference (Related xs) (Related ys) a)
  difference_row m =
      marks_as _ _ m
      (λ b. (λ p. (record { within = l; there = p.0 }, λ r. p.1 r.there), λ r. (r.0.there, λ p. r.1 (record { within = l; there = p }))))

-- a row of a complement
pub complement_row : (rows : List ℕ) (a u w : ℕ) {v : ℕ} → a < 32 → Marks w (Outside (Member u) (Member (get_or rows a 0))) → Marks v (Gated (Member u a) (Member w)) → Marks v (Complement (Member u) (Related rows) a)
complement_row rows a u w l n m =
    marks_as _ _ m
    (λ b. (λ p. let o = (n.same b).0 p.1 in (p.0, o.0, λ r. o.1 r.there), λ r. (r.0, (n.same b).1 (r.1, λ p. r.2 (record { within = l; there = p })))))

-- a row of an identity
pub identity_row : (a u w : ℕ) {v : ℕ} → Marks w (Single a) → Marks v (Gated (Member u a) (Member w)) → Marks v (Identity (Member u) a)
identity_row a u w n m = marks_as _ _ m (λ b. (λ p. (p.0, sym ((n.same b).0 p.1)), λ r. (r.0, (n.same b).1 (sym r.1))))

-- the rows of nothing show the relation with no pair
pub nothing_shows : Shows blank Never
nothing_shows =
    record {
      long = refl;
      fits = λ a. omega (arith, row_of_nothing a);
      same = λ a b. (λ r. in_nothing b (subst (λ x. Member x b) (row_of_nothing a) r.there), λ e. absurd e);
    }

module _ {F : Type 0} (g : Mut F (ℕ × Unit {0}) ℕ) (stays : (f f' : F) (a r : ℕ) → Called g f (a, tt) r f' → f' ≡ f) where
  -- calls leave the function as it was
  calls_stay : (p q : F) (xs : List ℕ) → FoldsTo (λ u x v. (y : ℕ) × Called g u (x, tt) y v) p xs q → q ≡ p
  calls_stay p q [] h = sym h
  calls_stay p q (x ∷ xs) h = calls_stay h.0 q xs h.2 ∙ stays _ _ _ _ h.1.1

  -- it may be called at each event in turn
  pub may_call : (f : F) → TakesEvents (λ a. g.pre f (a, tt)) → CallableAtEachTurn (index_steps 32) (λ p x q. (y : ℕ) × Called g p (x, tt) y q) (λ p x. g.pre p (x, tt)) 0 f
  may_call f t = record { at = λ xs s q x u y h k. subst⁻¹ (λ p. g.pre p (x, tt)) (calls_stay f q xs h) (t x (omega (arith, k.0, k.1))) }

  -- what it gave at each event in turn
  pub gave : (f p : F) (ys : List ℕ) (i n : ℕ) → p ≡ f → IsFromFnResultFrom g p ys i n → (a : ℕ) → i ≤ a → a < i + n → (q : F) × Called g f (a, tt) (get_or ys a 0) q
  gave f p ys i zero e h a l k = absurd (omega arith)
  gave f p ys i (suc n) e h a l k =
      ⊎_elim
      (λ same. (h.0, subst⁻¹ (λ b. Called g f (b, tt) (get_or ys b 0) h.0) same (subst⁻¹ (λ v. Called g f (i, tt) v h.0) (h.2.1 0) (subst (λ s. Called g s (i, tt) h.1 h.0) e h.3))))
      (λ ne. gave f h.0 ys (i + 1) n (stays _ _ _ _ h.3 ∙ e) h.4 a (omega arith) (omega arith))
      (cases_eq a i)

-- rows that a function gives show a relation where each of them shows its part
pub rows_show : {gives : ℕ → ℕ → Type 0} {rows : List ℕ} (R : Pairs) → ((a b : ℕ) → R a b → a < 32) → ((a v : ℕ) → a < 32 → gives a v → Marks v (R a)) → RowsBy gives rows → Shows rows R
rows_show R bound each r =
    record {
      long = r.long;
      fits = r.fits;
      same = λ a b. (λ h. ((each a _ h.within (r.each a h.within)).same b).0 h.there, λ p. let l = bound a b p in record { within = l; there = ((each a _ l (r.each a l)).same b).1 p });
    }
