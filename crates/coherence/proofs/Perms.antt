-- Permutations: the rank of a permutation and the permutation of a rank. Assumes nothing.
use Rattle.std.proofs.Common.{◌≡◌, ℕ, zero, suc, ◌+◌, ◌*◌, ◌/◌, ◌%◌, ◌<◌, ◌≤◌, Bool, true, false, cond, ltb, ◌⊎◌, List, [], ◌∷◌, length, get_or, sym, refl, ap, ◌∙◌, subst, inl, inr, ⊎_elim, zero-le, le_of_suc-le-suc, not-suc-le-zero, mul-le-mul_right, mod-lt, suc-mul, eq-or-lt_of_le, mul-pos, add-one, arith}
use native.Mathlib.Nat.{zero-div, zero-mod}
use Rattle.std.proofs.lemmas.Bool.{ltb-true, lt-ltb, le-ltb, cases_order, both_ways}
use Rattle.std.proofs.lemmas.Bool.Decides.{nat_tests}
use Rattle.std.proofs.lemmas.Nat.{div-add-mod', div_below}
use Rattle.finite.specs.Lists.{In, Apart}
use Rattle.finite.specs.Counts.{Counts}
use Rattle.finite.proofs.Lists.{no_longer}
use Rattle.finite.proofs.Counts.{count_same, count_one_more, count_nothing, count_unique, count_carried}
use Rattle.coherence.specs.Perms.{factorial, LinesUp, Before, Sorted, Rising, passing, lower, rank, removed, nth}

-- so many numbers are below a number
pub count_numbers : (n : ℕ) → Counts (λ k. k < n) n
count_numbers zero = count_nothing (λ k h. not-suc-le-zero h)
count_numbers (suc n) =
    let more = count_one_more {P = λ k. k < n} {Q = λ k. k < suc n} n (λ h. omega arith) (omega arith) (λ k h. omega arith) (λ k h. eq-or-lt_of_le (le_of_suc-le-suc h)) (count_numbers n) in
    subst (λ m. Counts (λ k. k < suc n) m) (add-one n) more

-- every factorial is above 0
pub factorial_pos : (n : ℕ) → 0 < factorial n
unfolding factorial
factorial_pos zero = omega arith
factorial_pos (suc n) = mul-pos (omega arith) (factorial_pos n)

-- the next factorial
pub factorial_next : (n : ℕ) → factorial (suc n) ≡ n * factorial n + factorial n
unfolding factorial
factorial_next n = suc-mul n (factorial n)

-- no more items pass than there are
pub passing_le : (t : ℕ → Bool) (xs : List ℕ) → passing t xs ≤ length xs
unfolding passing
passing_le t [] = zero-le
passing_le t (x ∷ xs) =
    let before = passing_le t xs in
    grind arith

-- an item passes, or not
passing_step : (t : ℕ → Bool) (x : ℕ) (xs : List ℕ) (b : Bool) → t x ≡ b → Apart (x ∷ xs) → Counts (λ y. In y xs × (t y ≡ true)) (passing t xs) → Counts (λ y. In y (x ∷ xs) × (t y ≡ true)) (cond b (passing t xs + 1) (passing t xs))
passing_step t x xs true e a c =
    count_one_more x (λ h. a.0 h.0) (inl refl, e) (λ y h. (inr h.0, h.1)) (λ y h. ⊎_elim inl (λ k. inr (k, h.1)) h.0) c
passing_step t x xs false e a c =
    count_same (λ y h. (inr h.0, h.1)) (λ y h. (⊎_elim (λ same. absurd (both_ways (t x) e (sym (ap t same) ∙ h.1))) (λ k. k) h.0, h.1)) c

-- in a list without repeats, this is how many items pass
pub passing_counts : (t : ℕ → Bool) (xs : List ℕ) → Apart xs → Counts (λ x. In x xs × (t x ≡ true)) (passing t xs)
unfolding passing
passing_counts t [] a = count_nothing (λ x h. h.0)
passing_counts t (x ∷ xs) a = passing_step t x xs (t x) refl a (passing_counts t xs a.1)

-- lists of the same things have as many items that pass
pub passing_same : (t : ℕ → Bool) (xs ys : List ℕ) → Apart xs → Apart ys → ((x : ℕ) → In x xs → In x ys) → ((x : ℕ) → In x ys → In x xs) → passing t xs ≡ passing t ys
passing_same t xs ys a b there back =
    count_unique (passing_counts t xs a) (count_same (λ x h. (back x h.0, h.1)) (λ x h. (there x h.0, h.1)) (passing_counts t ys b))

-- more numbers are lower than a higher number
pub lower_le : (p q : ℕ) (xs : List ℕ) → p ≤ q → lower p xs ≤ lower q xs
unfolding passing
lower_le p q [] le = zero-le
lower_le p q (x ∷ xs) le = let before = lower_le p q xs le in grind (arith, nat_tests)

-- a number is not lower than itself
lower_self : (x : ℕ) (xs : List ℕ) → lower x (x ∷ xs) ≡ lower x xs
unfolding passing
lower_self x xs = ap (λ b. cond b (lower x xs + 1) (lower x xs)) (le-ltb x x (omega arith))

-- a lower number is counted
lower_other : (p q : ℕ) (xs : List ℕ) → p < q → lower q (p ∷ xs) ≡ lower q xs + 1
unfolding passing
lower_other p q xs lt = ap (λ b. cond b (lower q xs + 1) (lower q xs)) (lt-ltb p q lt)

-- the rank of a list is below the factorial of its length
pub rank_below : (xs : List ℕ) → rank xs < factorial (length xs)
unfolding rank
rank_below [] = factorial_pos 0
rank_below (x ∷ xs) =
    let most = mul-le-mul_right (factorial (length xs)) (passing_le (λ y. ltb y x) xs) in
    let before = rank_below xs in
    omega (arith, factorial_next (length xs))

-- two rows of the same things
pub record Same (xs ys : List ℕ) : Type 0 where
  pub left : Apart xs
  pub right : Apart ys
  pub there : (x : ℕ) → In x xs → In x ys
  pub back : (x : ℕ) → In x ys → In x xs

pub same_turned : (xs ys : List ℕ) → Same xs ys → Same ys xs
same_turned xs ys s = record { left = s.right; right = s.left; there = s.back; back = s.there }

-- they are equally long
pub same_length : (xs ys : List ℕ) → Same xs ys → length xs ≡ length ys
same_length xs ys s = omega (arith, no_longer xs ys s.left s.there, no_longer ys xs s.right s.back)

-- the first items are the same: so are the things in the rest
pub rest_of : (x y : ℕ) (xs ys : List ℕ) → x ≡ y → (In x xs → ⊥) → ((z : ℕ) → In z (x ∷ xs) → In z (y ∷ ys)) → (z : ℕ) → In z xs → In z ys
rest_of x y xs ys e fresh there z h =
    ⊎_elim (λ same. absurd (fresh (subst (λ w. In w xs) (same ∙ sym e) h))) (λ k. k) (there z (inr h))

pub same_rest : (x y : ℕ) (xs ys : List ℕ) → x ≡ y → Same (x ∷ xs) (y ∷ ys) → Same xs ys
same_rest x y xs ys e s = record {
  left = s.left.1;
  right = s.right.1;
  there = rest_of x y xs ys e s.left.0 s.there;
  back = rest_of y x ys xs (sym e) s.right.0 s.back;
}

-- a lower leading digit makes a lower number
pub leading : (a b f r s : ℕ) → a < b → r < f → a * f + r < b * f + s
leading a b f r s lt below = omega (arith, suc-mul a f, mul-le-mul_right f lt)

-- the first number is lower: so is its digit
lower_first : (x y : ℕ) (xs ys : List ℕ) → x < y → Same (x ∷ xs) (y ∷ ys) → lower x xs < lower y ys
lower_first x y xs ys lt s =
    let more = lower_le x y xs (omega arith) in
    let both = passing_same (λ z. ltb z y) (x ∷ xs) (y ∷ ys) s.left s.right s.there s.back in
    omega (arith, lower_other x y xs lt, lower_self y ys)

-- of two rows of the same things, the one that comes before has the lower rank
pub rank_before : (xs ys : List ℕ) → Same xs ys → Before xs ys → rank xs < rank ys
unfolding rank
rank_before [] ys s h = absurd h
rank_before (x ∷ xs) [] s h = absurd h
rank_before (x ∷ xs) (y ∷ ys) s (inl lt) =
    let long : length xs ≡ length ys = omega (arith, same_length (x ∷ xs) (y ∷ ys) s) in
    rw (← long) (leading (lower x xs) (lower y ys) (factorial (length xs)) (rank xs) (rank ys) (lower_first x y xs ys lt s) (rank_below xs))
rank_before (x ∷ xs) (y ∷ ys) s (inr h) =
    let rest = same_rest x y xs ys h.0 s in
    let long = same_length xs ys rest in
    let digit : lower x xs ≡ lower y ys = rw h.0 (passing_same (λ z. ltb z y) xs ys rest.left rest.right rest.there rest.back) in
    let before = rank_before xs ys rest h.1 in
    rw (digit, long) (omega arith)

-- two lists of one length are the same, or one comes before the other
pub before_total : (xs ys : List ℕ) → length xs ≡ length ys → (xs ≡ ys) ⊎ (Before xs ys ⊎ Before ys xs)
before_total [] [] e = inl refl
before_total [] (y ∷ ys) e = absurd (omega arith)
before_total (x ∷ xs) [] e = absurd (omega arith)
before_total (x ∷ xs) (y ∷ ys) e =
    ⊎_elim
    (λ same. ⊎_elim (λ rest. inl (cc)) (λ rest. inr (⊎_elim (λ b. inl (inr (same, b))) (λ b. inr (inr (sym same, b))) rest)) (before_total xs ys (omega arith)))
    (λ other. inr (⊎_elim (λ lt. inl (inl lt)) (λ lt. inr (inl lt)) other))
    (cases_order x y)

-- rows of the same things with the same rank are the same
pub rank_one : (xs ys : List ℕ) → Same xs ys → rank xs ≡ rank ys → xs ≡ ys
rank_one xs ys s e =
    ⊎_elim (λ same. same)
    (λ other. absurd (⊎_elim (λ b. let lt = rank_before xs ys s b in omega arith) (λ b. let lt = rank_before ys xs (same_turned xs ys s) b in omega arith) other))
    (before_total xs ys (same_length xs ys s))

-- rows of the same things: the one with the lower rank comes before
pub rank_earlier : (xs ys : List ℕ) → Same xs ys → rank xs < rank ys → Before xs ys
rank_earlier xs ys s lt =
    ⊎_elim (λ same. let e = ap rank same in absurd (omega arith))
    (λ other. ⊎_elim (λ b. b) (λ b. let gt = rank_before ys xs (same_turned xs ys s) b in absurd (omega arith)) other)
    (before_total xs ys (same_length xs ys s))

-- what stands at a place of a list is in it
pub in_getD : (xs : List ℕ) (i : ℕ) → i < length xs → In (get_or xs i 0) xs
in_getD [] i lt = absurd (not-suc-le-zero lt)
in_getD (x ∷ xs) zero lt = inl refl
in_getD (x ∷ xs) (suc i) lt = inr (in_getD xs i (omega arith))

-- a list without the item at a place is one shorter
pub removed_length : (xs : List ℕ) (i : ℕ) → i < length xs → suc (length (removed i xs)) ≡ length xs
unfolding removed
removed_length [] i lt = absurd (not-suc-le-zero lt)
removed_length (x ∷ xs) zero lt = refl
removed_length (x ∷ xs) (suc i) lt = ap suc (removed_length xs i (omega arith))

-- it has no other items
pub removed_only : (xs : List ℕ) (i z : ℕ) → In z (removed i xs) → In z xs
unfolding removed
removed_only [] i z h = h
removed_only (x ∷ xs) zero z h = inr h
removed_only (x ∷ xs) (suc i) z (inl e) = inl e
removed_only (x ∷ xs) (suc i) z (inr h) = inr (removed_only xs i z h)

-- it has all other items
pub removed_all : (xs : List ℕ) (i z : ℕ) → In z xs → (z ≡ get_or xs i 0) ⊎ In z (removed i xs)
unfolding removed
removed_all [] i z h = absurd h
removed_all (x ∷ xs) zero z (inl e) = inl e
removed_all (x ∷ xs) zero z (inr h) = inr h
removed_all (x ∷ xs) (suc i) z (inl e) = inr (inl e)
removed_all (x ∷ xs) (suc i) z (inr h) = ⊎_elim inl (λ k. inr (inr k)) (removed_all xs i z h)

-- without repeats, the item is gone
pub removed_gone : (xs : List ℕ) (i : ℕ) → i < length xs → Apart xs → In (get_or xs i 0) (removed i xs) → ⊥
unfolding removed
removed_gone [] i lt a h = not-suc-le-zero lt
removed_gone (x ∷ xs) zero lt a h = a.0 h
removed_gone (x ∷ xs) (suc i) lt a (inl e) = a.0 (subst (λ y. In y xs) e (in_getD xs i (omega arith)))
removed_gone (x ∷ xs) (suc i) lt a (inr h) = removed_gone xs i (omega arith) a.1 h

-- it is sorted if the list was
pub removed_sorted : (co : ℕ → ℕ → Bool) (xs : List ℕ) (i : ℕ) → Sorted co xs → Sorted co (removed i xs)
unfolding removed
removed_sorted co [] i s = tt
removed_sorted co (x ∷ xs) zero s = s.1
removed_sorted co (x ∷ xs) (suc i) s = (λ y h. s.0 y (removed_only xs i y h), removed_sorted co xs i s.1)

-- nothing in a sorted list stands twice, where nothing is before itself
pub sorted_apart : (co : ℕ → ℕ → Bool) → ((x : ℕ) → co x x ≡ true → ⊥) → (xs : List ℕ) → Sorted co xs → Apart xs
sorted_apart co never [] s = tt
sorted_apart co never (x ∷ xs) s = (λ h. never x (s.0 x h), sorted_apart co never xs s.1)

pub rising_apart : (xs : List ℕ) → Rising xs → Apart xs
rising_apart xs = sorted_apart ltb (λ x e. omega (arith, ltb-true x x e)) xs

-- no number of a list is lower, where each is higher
lower_none : (p : ℕ) (xs : List ℕ) → ((y : ℕ) → In y xs → ltb p y ≡ true) → lower p xs ≡ 0
unfolding passing
lower_none p [] h = refl
lower_none p (x ∷ xs) h =
    let not_lower = le-ltb x p (omega (arith, ltb-true p x (h x (inl refl)))) in
    ap (λ b. cond b (lower p xs + 1) (lower p xs)) not_lower ∙ lower_none p xs (λ y k. h y (inr k))

-- in a rising list as many items are lower than one as stand before it
pub lower_removed : (xs : List ℕ) (i : ℕ) → i < length xs → Rising xs → lower (get_or xs i 0) (removed i xs) ≡ i
unfolding removed
lower_removed [] i lt r = absurd (not-suc-le-zero lt)
lower_removed (x ∷ xs) zero lt r = lower_none x xs r.0
lower_removed (x ∷ xs) (suc i) lt r =
    let inside : i < length xs = omega arith in
    let before = lower_removed xs i inside r.1 in
    let above = ltb-true x (get_or xs i 0) (r.0 (get_or xs i 0) (in_getD xs i inside)) in
    lower_other x (get_or xs i 0) (removed i xs) above ∙ omega arith

-- an item put before a row of the other items
nth_same : (xs tail : List ℕ) (i : ℕ) → i < length xs → Apart xs → Same tail (removed i xs) → Same (get_or xs i 0 ∷ tail) xs
nth_same xs tail i lt a s = record {
  left = (λ h. removed_gone xs i lt a (s.there (get_or xs i 0) h), s.left);
  right = a;
  there = λ z. ⊎_elim (λ e. subst (λ y. In y xs) (sym e) (in_getD xs i lt)) (λ h. removed_only xs i z (s.there z h));
  back = λ z h. ⊎_elim inl (λ k. inr (s.back z k)) (removed_all xs i z h);
}

-- its rank
nth_rank : (xs tail : List ℕ) (i f k : ℕ) → i < length xs → Rising xs → Same tail (removed i xs) → length tail ≡ f → rank (get_or xs i 0 ∷ tail) ≡ i * factorial f + rank tail
unfolding rank
nth_rank xs tail i f k lt r s long =
    let digit = passing_same (λ z. ltb z (get_or xs i 0)) tail (removed i xs) s.left s.right s.there s.back ∙ lower_removed xs i lt r in
    rw (digit, long) refl

-- the n-th permutation is one, and n is its rank
pub nth_right : (f : ℕ) (xs : List ℕ) (k : ℕ) → length xs ≡ f → Rising xs → k < factorial f → Same (nth f xs k) xs × (rank (nth f xs k) ≡ k)
unfolding nth rank factorial
nth_right zero [] k e r lt = (record { left = tt; right = tt; there = λ x h. h; back = λ x h. h }, omega arith)
nth_right zero (x ∷ xs) k e r lt = absurd (omega arith)
nth_right (suc f) xs k e r lt =
    let i : ℕ = k / factorial f in
    let inside : i < length xs = rw e (div_below k (factorial f) (suc f) (factorial_pos f) lt) in
    let shorter : length (removed i xs) ≡ f = omega (arith, removed_length xs i inside) in
    let t = nth_right f (removed i xs) (k % factorial f) shorter (removed_sorted ltb xs i r) (mod-lt k (factorial_pos f)) in
    let tail : List ℕ = nth f (removed i xs) (k % factorial f) in
    let long : length tail ≡ f = same_length tail (removed i xs) t.0 ∙ shorter in (
      nth_same xs tail i inside (rising_apart xs r) t.0,
      nth_rank xs tail i f k inside r t.0 long ∙ ap (λ m. i * factorial f + m) t.1 ∙ div-add-mod' k (factorial f),
    )

-- the first permutation of a list is the list
pub nth_first : (xs : List ℕ) → nth (length xs) xs 0 ≡ xs
unfolding nth removed
nth_first [] = refl
nth_first (x ∷ xs) = rw (zero-div (factorial (length xs)), zero-mod (factorial (length xs))) (ap (λ ys. x ∷ ys) (nth_first xs))

module _ {P : ℕ → Type 0} where
  -- two rows of the things with a property are rows of the same things
  pub lines_same : (xs ys : List ℕ) → LinesUp P xs → LinesUp P ys → Same xs ys
  lines_same xs ys h k = record { left = h.apart; right = k.apart; there = λ x i. k.all x (h.only x i); back = λ x i. h.all x (k.only x i) }

  -- a row of the same things is such a row
  pub same_lines : (xs ys : List ℕ) → Same xs ys → LinesUp P ys → LinesUp P xs
  same_lines xs ys s k = record { apart = s.left; only = λ x i. k.only x (s.there x i); all = λ x p. s.back x (k.all x p) }

  -- the rank is how many permutations come before
  pub rank_counts : (base row : List ℕ) → LinesUp P base → Rising base → LinesUp P row → Counts (λ other. LinesUp P other × Before other row) (rank row)
  rank_counts base row h r k =
      let long = same_length row base (lines_same row base k h) in
      let below : rank row < factorial (length base) = rw (← long) (rank_below row) in
      let made = λ (n : ℕ) (lt : n < rank row). nth_right (length base) base n refl r (omega arith) in
      count_carried (nth (length base) base)
      (λ n lt. (same_lines _ base (made n lt).0 h, rank_earlier _ row (lines_same _ row (same_lines _ base (made n lt).0 h) k) (rw (made n lt).1 lt)))
      (λ m n lt lt' e. sym (made m lt).1 ∙ ap rank e ∙ (made n lt').1)
      (λ other both. let lt = rank_before other row (lines_same other row both.0 k) both.1 in
      (rank other, lt, rank_one _ other (lines_same _ other (same_lines _ base (made (rank other) lt).0 h) both.0) (made (rank other) lt).1))
      (count_numbers (rank row))
