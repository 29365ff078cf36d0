-- Numbers of mixed radix: each number below the product has its digits. Assumes nothing.
use Rattle.std.proofs.Common.{◌≡◌, ℕ, zero, suc, ◌+◌, ◌*◌, ◌/◌, ◌%◌, ◌<◌, ◌≤◌, [], ◌∷◌, length, get_or, sym, refl, ap, ◌∙◌, subst, ap₂, ⊎_elim, zero-le, le_of_suc-le-suc, not-suc-le-zero, mul-le-mul_right, mod-lt, mul_assoc, suc-mul, add-mul, eq-or-lt_of_le, zero-mul, div-le_self, add-one, arith}
use native.Mathlib.Nat.{mod-le}
use Rattle.std.proofs.lemmas.Bool.{cases_order, cases_lt}
use Rattle.std.proofs.lemmas.List.{length_push, get_or_push, get_or_append_left, get_or_past}
use Rattle.std.proofs.lemmas.Nat.{div-add-mod', same_from_place}
use Rattle.coherence.specs.Numbers.{mixed, product}
use Rattle.coherence.specs.Digits.{digits_of, excess}
use Rattle.coherence.proofs.Perms.{leading}

-- the digits are below their radices
abbrev pub Digits : (ℕ → ℕ) → (ℕ → ℕ) → ℕ → Type 0
Digits radix digit m = (l : ℕ) → l < m → digit l < radix l

-- two functions agree below a bound
abbrev pub Agree : (ℕ → ℕ) → (ℕ → ℕ) → ℕ → Type 0
Agree f g m = (l : ℕ) → l < m → f l ≡ g l

pub product_same : (radix other : ℕ → ℕ) (m : ℕ) → Agree radix other m → product radix m ≡ product other m
unfolding product
product_same radix other zero same = refl
product_same radix other (suc m) same = ap₂ ◌*◌ (product_same radix other m (λ l lt. same l (omega arith))) (same m (omega arith))

pub mixed_same : (radix other digit digit' : ℕ → ℕ) (m : ℕ) → Agree radix other m → Agree digit digit' m → mixed radix digit m ≡ mixed other digit' m
unfolding mixed
mixed_same radix other digit digit' zero same same' = refl
mixed_same radix other digit digit' (suc m) same same' =
    ap₂ ◌+◌ (ap₂ ◌*◌ (mixed_same radix other digit digit' m (λ l lt. same l (omega arith)) (λ l lt. same' l (omega arith))) (same m (omega arith))) (same' m (omega arith))

-- a number of mixed radix is below the product of the radices
pub mixed_below : (radix digit : ℕ → ℕ) (m : ℕ) → Digits radix digit m → mixed radix digit m < product radix m
unfolding mixed product
mixed_below radix digit zero below = omega arith
mixed_below radix digit (suc m) below =
    let before = mixed_below radix digit m (λ l lt. below l (omega arith)) in
    omega (arith, below m (omega arith), suc-mul (mixed radix digit m) (radix m), mul-le-mul_right (radix m) before)

-- equal numbers have the same digits
pub mixed_one : (radix digit other : ℕ → ℕ) (m : ℕ) → Digits radix digit m → Digits radix other m → mixed radix digit m ≡ mixed radix other m → Agree digit other m
unfolding mixed
mixed_one radix digit other zero d d' e = λ l lt. absurd (not-suc-le-zero lt)
mixed_one radix digit other (suc m) d d' e =
    let t = same_from_place (mixed radix digit m) (digit m) (mixed radix other m) (other m) (radix m) (d m (omega arith)) (d' m (omega arith)) e in
    λ l lt. ⊎_elim (λ q. ap digit q ∙ t.1 ∙ ap other (sym q)) (mixed_one radix digit other m (λ l lt. d l (omega arith)) (λ l lt. d' l (omega arith)) t.0 l) (eq-or-lt_of_le (le_of_suc-le-suc lt))

-- the first place at which the digits differ
pub record Lower (digit other : ℕ → ℕ) (m : ℕ) : Type 0 where
  pub place : ℕ
  pub within : place < m
  pub alike : Agree digit other place
  pub less : digit place < other place

-- a lower number has the lower digit at the first place where they differ
pub mixed_lower : (radix digit other : ℕ → ℕ) (m : ℕ) → Digits radix digit m → Digits radix other m → mixed radix digit m < mixed radix other m → Lower digit other m
unfolding mixed
mixed_lower radix digit other zero d d' lt = absurd (not-suc-le-zero lt)
mixed_lower radix digit other (suc m) d d' lt =
    let below : Digits radix digit m = λ l k. d l (omega arith) in
    let below' : Digits radix other m = λ l k. d' l (omega arith) in
    let a : ℕ = mixed radix digit m in
    let b : ℕ = mixed radix other m in
    ⊎_elim
    (λ same. record {
      place = m;
      within = omega arith;
      alike = mixed_one radix digit other m below below' same;
      less = let e = ap (λ n. n * radix m) same in omega arith;
    })
    (λ differ. ⊎_elim
    (λ less. let h = mixed_lower radix digit other m below below' less in record { place = h.place; within = omega (arith, h.within); alike = h.alike; less = h.less })
    (λ more. let greater = leading b a (radix m) (other m) (digit m) more (d' m (omega arith)) in absurd (omega arith))
    differ)
    (cases_order a b)

-- a number has as many digits as are asked for
pub digits_length : (radix : ℕ → ℕ) (n m : ℕ) → length (digits_of radix n m) ≡ m
unfolding digits_of
digits_length radix n zero = refl
digits_length radix n (suc m) =
    length_push (digits_of radix (n / radix m) m) (n % radix m) ∙ ap (λ k. k + 1) (digits_length radix (n / radix m) m) ∙ add-one m

-- the last digit, and those before it
digit_last : (radix : ℕ → ℕ) (n m : ℕ) → get_or (digits_of radix n (suc m)) m 0 ≡ n % radix m
unfolding digits_of
digit_last radix n m = get_or_push (digits_of radix (n / radix m) m) (n % radix m) 0 m (digits_length radix (n / radix m) m)

digit_before : (radix : ℕ → ℕ) (n m l : ℕ) → l < m → get_or (digits_of radix n (suc m)) l 0 ≡ get_or (digits_of radix (n / radix m) m) l 0
unfolding digits_of
digit_before radix n m l lt =
    let inside : l < length (digits_of radix (n / radix m) m) = rw (digits_length radix (n / radix m) m) lt in
    get_or_append_left (digits_of radix (n / radix m) m) (n % radix m ∷ []) 0 l inside

-- each digit is below its radix
pub digits_below : (radix : ℕ → ℕ) (n m : ℕ) → ((l : ℕ) → 0 < radix l) → Digits radix (λ l. get_or (digits_of radix n m) l 0) m
digits_below radix n zero pos l lt = absurd (not-suc-le-zero lt)
digits_below radix n (suc m) pos l lt =
    ⊎_elim
    (λ e. subst (λ k. get_or (digits_of radix n (suc m)) k 0 < radix k) (sym e) (subst (λ d. d < radix m) (sym (digit_last radix n m)) (mod-lt n (pos m))))
    (λ less. subst (λ d. d < radix l) (sym (digit_before radix n m l less)) (digits_below radix (n / radix m) m pos l less))
    (eq-or-lt_of_le (le_of_suc-le-suc lt))

-- a number is made of its digits and what is left above them
regrouped : (e p r m d n : ℕ) → e * p + m ≡ n / r → n % r ≡ d → e * (p * r) + (m * r + d) ≡ n
regrouped e p r m d n high low =
    let whole = div-add-mod' n r in
    let left = ap (λ k. k * r) high in
    omega (arith, add-mul (e * p) m r, mul_assoc e p r, whole, left, low)

pub digits_make : (radix : ℕ → ℕ) (n m : ℕ) → excess radix n m * product radix m + mixed radix (λ l. get_or (digits_of radix n m) l 0) m ≡ n
unfolding excess product mixed
digits_make radix n zero = omega arith
digits_make radix n (suc m) =
    let before = digits_make radix (n / radix m) m in
    let same = mixed_same radix radix (λ l. get_or (digits_of radix n (suc m)) l 0) (λ l. get_or (digits_of radix (n / radix m) m) l 0) m (λ l lt. refl) (digit_before radix n m) in
    rw same (regrouped (excess radix (n / radix m) m) (product radix m) (radix m) (mixed radix (λ l. get_or (digits_of radix (n / radix m) m) l 0) m) (get_or (digits_of radix n (suc m)) m 0) n before (sym (digit_last radix n m)))

-- nothing is left above the digits of a number below the product
left_over : (e p : ℕ) (n : ℕ) → e * p ≤ n → n < p → e ≡ 0
left_over zero p n le lt = refl
left_over (suc e) p n le lt = absurd (omega (arith, suc-mul e p))

pub excess_none : (radix : ℕ → ℕ) (n m : ℕ) → n < product radix m → excess radix n m ≡ 0
excess_none radix n m lt =
    let whole = digits_make radix n m in
    left_over (excess radix n m) (product radix m) n (omega (arith, whole)) lt

-- and then the digits make the number
pub digits_whole : (radix : ℕ → ℕ) (n m : ℕ) → excess radix n m ≡ 0 → mixed radix (λ l. get_or (digits_of radix n m) l 0) m ≡ n
digits_whole radix n m none =
    let whole = digits_make radix n m in
    let nothing = ap (λ e. e * product radix m) none ∙ zero-mul (product radix m) in
    omega (arith, whole, nothing)

pub excess_below : (radix : ℕ → ℕ) (n m : ℕ) → ((l : ℕ) → 0 < radix l) → excess radix n m ≡ 0 → n < product radix m
excess_below radix n m pos none = subst (λ k. k < product radix m) (digits_whole radix n m none) (mixed_below radix _ m (digits_below radix n m pos))

-- no digit is above the number
pub digits_le : (radix : ℕ → ℕ) (n m l : ℕ) → get_or (digits_of radix n m) l 0 ≤ n
unfolding digits_of
digits_le radix n zero l = zero-le
digits_le radix n (suc m) l =
    ⊎_elim
    (λ lt. let before = digits_le radix (n / radix m) m l in
    let le = div-le_self n (radix m) in
    subst (λ d. d ≤ n) (sym (digit_before radix n m l lt)) (omega arith))
    (λ ge. ⊎_elim
    (λ e. subst (λ k. get_or (digits_of radix n (suc m)) k 0 ≤ n) e (subst (λ d. d ≤ n) (sym (digit_last radix n m)) (mod-le n (radix m))))
    (λ gt. let past = get_or_past (digits_of radix n (suc m)) l 0 (rw (digits_length radix n (suc m)) gt) in subst (λ d. d ≤ n) (sym past) zero-le)
    (eq-or-lt_of_le ge))
    (cases_lt l m)
