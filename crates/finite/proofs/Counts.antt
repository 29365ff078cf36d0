-- How many things have a property: the laws of counting. Assumes nothing.
use Rattle.std.proofs.Common.{◌≡◌, ℕ, zero, suc, ◌+◌, ◌<◌, ◌≤◌, Bool, true, false, cond, ◌⊎◌, List, [], ◌∷◌, length, take, map, sym, refl, ap, ◌∙◌, subst, inl, inr, ⊎_elim, zero-le, le_of_suc-le-suc, not-suc-le-zero, le_antisymm, eq-or-lt_of_le, add-one, arith}
use borrow.Author.Tests.{clash}
use lib.ListN.{length-map}
use Rattle.std.specs.List.{count_by}
use Rattle.std.proofs.lemmas.List.{take_all}
use Rattle.std.proofs.lemmas.List.Sums.{count_by_more_yes, count_by_more_no}
use Rattle.finite.specs.Counts.{Counts, Below, count_below, flag_at, SetFlags}
use Rattle.finite.proofs.Lists.{placed, first, no_longer, in_map, in_map_from, apart_map}

module _ {A : Type 0} {P Q : A → Type 0} where
  -- Of two properties, what has the stronger one is no more.
  pub count_fewer : {m n : ℕ} → ((x : A) → P x → Q x) → Counts P m → Counts Q n → m ≤ n
  count_fewer s c d =
      let shorter = no_longer c.items d.items c.apart (λ x h. d.all x (s x (c.only x h))) in
      rw (← c.long, ← d.long) shorter

  -- Two properties of the same things have the same count.
  pub count_same : {n : ℕ} → ((x : A) → P x → Q x) → ((x : A) → Q x → P x) → Counts P n → Counts Q n
  count_same s t c = record {
    items = c.items;
    apart = c.apart;
    only = λ x h. s x (c.only x h);
    all = λ x h. c.all x (t x h);
    long = c.long;
  }

  -- One thing more has the property: the count is one more.
  pub count_one_more : {n : ℕ} (a : A) → (P a → ⊥) → Q a → ((x : A) → P x → Q x) → ((x : A) → Q x → (x ≡ a) ⊎ P x) → Counts P n → Counts Q (n + 1)
  count_one_more a new here s t c = record {
    items = a ∷ c.items;
    apart = (λ h. new (c.only a h), c.apart);
    only = λ x. ⊎_elim (λ e. subst Q (sym e) here) (λ h. s x (c.only x h));
    all = λ x q. ⊎_elim inl (λ h. inr (c.all x h)) (t x q);
    long = simp add-one (ap suc c.long);
  }

module _ {A : Type 0} {P : A → Type 0} where
  -- A count is unique.
  pub count_unique : {m n : ℕ} → Counts P m → Counts P n → m ≡ n
  count_unique c d = le_antisymm (count_fewer (λ x h. h) c d) (count_fewer (λ x h. h) d c)

  -- If nothing has the property, its count is 0.
  pub count_nothing : ((x : A) → P x → ⊥) → Counts P 0
  count_nothing s = record { items = []; apart = tt; only = λ x h. absurd h; all = s; long = refl }

  -- If the count is 0, nothing has the property.
  pub count_no_more : Counts P 0 → (x : A) → P x → ⊥
  count_no_more c x h = let t = placed x c.items (c.all x h) in omega (arith, t.1, c.long)

  -- If the count is above 0, something has the property.
  pub count_something : {n : ℕ} → 0 < n → Counts P n → (x : A) × P x
  count_something l c =
      let t = first c.items (rw c.long l) in
      (t.0, c.only t.0 t.1)

-- A map that is one-to-one on what has the property P, and reaches all that has Q, carries the count over.
pub count_carried : {A B : Type 0} {P : A → Type 0} {Q : B → Type 0} {n : ℕ} (f : A → B) → ((x : A) → P x → Q (f x)) → ((x y : A) → P x → P y → f x ≡ f y → x ≡ y) → ((y : B) → Q y → (x : A) × P x × (f x ≡ y)) → Counts P n → Counts Q n
count_carried f into one onto c = record {
  items = map f c.items;
  apart = apart_map f c.items (λ x y h k. one x y (c.only x h) (c.only y k)) c.apart;
  only = λ y h. let t = in_map_from f y c.items h in rw t.2 (into t.0 (c.only t.0 t.1));
  all = λ y q. let t = onto y q in rw (← t.2) (in_map f t.0 c.items (c.all t.0 t.1));
  long = length-map c.items f ∙ c.long;
}

-- No number is below 0.
pub count_none : (p : ℕ → Bool) → count_below p 0 ≡ 0
unfolding count_below
count_none p = refl

-- One number more is counted if it passes.
pub count_more : (p : ℕ → Bool) (n : ℕ) → count_below p (n + 1) ≡ cond (p n) (count_below p n + 1) (count_below p n)
unfolding count_below
count_more p n = rw (add-one n) refl

-- No more numbers are counted than there are.
pub count_below_le : (p : ℕ → Bool) (n : ℕ) → count_below p n ≤ n
unfolding count_below
count_below_le p zero = zero-le
count_below_le p (suc n) =
    let before = count_below_le p n in
    elim (p n) as (λ b. cond b (count_below p n + 1) (count_below p n) ≤ suc n) [ true ↦ omega arith | false ↦ omega arith ]

-- A number below the next bound is the bound itself, or below it.
below_or_at : (p : ℕ → Bool) (n k : ℕ) → Below p (suc n) k → (k ≡ n) ⊎ Below p n k
below_or_at p n k h = ⊎_elim inl (λ l. inr (l, h.1)) (eq-or-lt_of_le (le_of_suc-le-suc h.0))

-- The next number is counted if it passes.
count_next : (p : ℕ → Bool) (n m : ℕ) (b : Bool) → p n ≡ b → Counts (Below p n) m → Counts (Below p (suc n)) (cond b (m + 1) m)
count_next p n m true e c =
    count_one_more n (λ h. omega (arith, h.0)) (omega arith, e) (λ k h. (omega (arith, h.0), h.1)) (below_or_at p n) c
count_next p n m false e c =
    count_same (λ k h. (omega (arith, h.0), h.1)) (λ k h. ⊎_elim (λ q. absurd (clash (sym e ∙ sym (ap p q) ∙ h.1))) (λ b. b) (below_or_at p n k h)) c

-- The computed count is the count.
pub count_computed : (p : ℕ → Bool) (n : ℕ) → Counts (Below p n) (count_below p n)
unfolding count_below
count_computed p zero = count_nothing (λ k h. not-suc-le-zero h.0)
count_computed p (suc n) = count_next p n (count_below p n) (p n) refl (count_computed p n)

-- A loop that has come to the bound has the count.
pub count_done : (p : ℕ → Bool) (i n : ℕ) {r : ℕ} → i ≡ n → r ≡ count_below p i → Counts (Below p n) r
count_done p i n e h = rw (h, e) (count_computed p n)

module _ (flags : List Bool) where
  -- One flag more is counted alike in the list and among the numbers.
  count_alike_more : (n : ℕ) (b : Bool) → n < length flags → flag_at flags n ≡ b → count_by (λ x. x) (take n flags) ≡ count_below (flag_at flags) n → count_by (λ x. x) (take (n + 1) flags) ≡ count_below (flag_at flags) (n + 1)
  count_alike_more n true l e h = count_by_more_yes (λ x. x) flags n false l e ∙ ap (λ k. k + 1) h ∙ sym (count_more (flag_at flags) n ∙ ap (λ b. cond b (count_below (flag_at flags) n + 1) (count_below (flag_at flags) n)) e)
  count_alike_more n false l e h = count_by_more_no (λ x. x) flags n false l e ∙ h ∙ sym (count_more (flag_at flags) n ∙ ap (λ b. cond b (count_below (flag_at flags) n + 1) (count_below (flag_at flags) n)) e)

  -- The set ones of the first flags are as many as the numbers at which they stand.
  count_alike : (n : ℕ) → n ≤ length flags → count_by (λ x. x) (take n flags) ≡ count_below (flag_at flags) n
  count_alike zero l = sym (count_none (flag_at flags))
  count_alike (suc n) l = rw (← add-one n) (count_alike_more n (flag_at flags n) (omega arith) refl (count_alike n (omega arith)))

  -- The number of set flags in the list is their count.
  pub count_flags : {r : ℕ} → r ≡ count_by (λ x. x) flags → SetFlags flags r
  count_flags e =
      let whole : take (length flags) flags ≡ flags = take_all (length flags) flags (omega arith) in
      count_done (flag_at flags) (length flags) (length flags) refl
      (e ∙ ap (count_by (λ x. x)) (sym whole) ∙ count_alike (length flags) (omega arith))
