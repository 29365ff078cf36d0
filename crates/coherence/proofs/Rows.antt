-- Rows: joining lists, what stands before what, and sorting. Assumes nothing.
use Rattle.std.proofs.Common.{◌≡◌, ℕ, zero, suc, ◌+◌, ◌<◌, Bool, true, false, cond, ◌&&◌, eqb, ltb, ◌⊎◌, List, [], ◌∷◌, ◌++◌, Decides, sym, refl, ap, ◌∙◌, subst, ap₂, inl, inr, ⊎_elim, not-suc-le-zero, add-one, arith}
use Rattle.std.proofs.lemmas.Bool.{lt-ltb, both_ways, false≢true, cases_eq}
use Rattle.std.proofs.lemmas.Bool.Decides.{Decides-eqb, Decides-and, Decides-or}
use mathlib.Core.List.{map-id}
use Rattle.std.specs.List.{filter, range_with_len}
use Rattle.std.proofs.lemmas.List.FromFn.{map-range_with_len_more}
use Rattle.std.proofs.lemmas.List.Elements.{filter-append}
use Rattle.finite.specs.Lists.{In, Apart}
use Rattle.coherence.specs.Perms.{Sorted, Rising}
use Rattle.coherence.specs.Coherence.{Order}
use Rattle.coherence.specs.Lines.{those, member, Precedes, precedes}
use Rattle.coherence.proofs.Perms.{rest_of}

-- what is in a joined list is in a part
pub in_append : (x : ℕ) (xs ys : List ℕ) → In x (xs ++ ys) → In x xs ⊎ In x ys
in_append x [] ys h = inr h
in_append x (y ∷ xs) ys (inl e) = inl (inl e)
in_append x (y ∷ xs) ys (inr h) = ⊎_elim (λ k. inl (inr k)) inr (in_append x xs ys h)

pub in_left : (x : ℕ) (xs ys : List ℕ) → In x xs → In x (xs ++ ys)
in_left x [] ys h = absurd h
in_left x (y ∷ xs) ys (inl e) = inl e
in_left x (y ∷ xs) ys (inr h) = inr (in_left x xs ys h)

pub in_right : (x : ℕ) (xs ys : List ℕ) → In x ys → In x (xs ++ ys)
in_right x [] ys h = h
in_right x (y ∷ xs) ys h = inr (in_right x xs ys h)

-- parts without repeats and without common items join to a list without repeats
pub apart_append : (xs ys : List ℕ) → Apart xs → Apart ys → ((x : ℕ) → In x xs → In x ys → ⊥) → Apart (xs ++ ys)
apart_append [] ys a b no-common = b
apart_append (x ∷ xs) ys a b no-common =
    (λ h. ⊎_elim a.0 (no-common x (inl refl)) (in_append x xs ys h), apart_append xs ys a.1 b (λ y h. no-common y (inr h)))

-- sorted parts, the items of the first before those of the second, join to a sorted list
pub sorted_append : (co : Order) (xs ys : List ℕ) → Sorted co xs → Sorted co ys → ((x y : ℕ) → In x xs → In y ys → co x y ≡ true) → Sorted co (xs ++ ys)
sorted_append co [] ys s t across = t
sorted_append co (x ∷ xs) ys s t across =
    (λ y h. ⊎_elim (s.0 y) (across x y (inl refl)) (in_append y xs ys h), sorted_append co xs ys s.1 t (λ a b h. across a b (inr h)))

-- a list is sorted where each item is before every other
pub sorted_all : (co : Order) (xs : List ℕ) → Apart xs → ((x y : ℕ) → In x xs → In y xs → (x ≡ y → ⊥) → co x y ≡ true) → Sorted co xs
sorted_all co [] a all = tt
sorted_all co (x ∷ xs) a all =
    (λ y h. all x y (inl refl) (inr h) (λ e. a.0 (subst (λ z. In z xs) (sym e) h)), sorted_all co xs a.1 (λ y z h k. all y z (inr h) (inr k)))

-- what stands before something is in the list
pub precedes_left : (xs : List ℕ) (a b : ℕ) → Precedes xs a b → In a xs
precedes_left [] a b h = h
precedes_left (x ∷ xs) a b (inl h) = inl h.0
precedes_left (x ∷ xs) a b (inr h) = inr (precedes_left xs a b h)

pub precedes_right : (xs : List ℕ) (a b : ℕ) → Precedes xs a b → In b xs
precedes_right [] a b h = h
precedes_right (x ∷ xs) a b (inl h) = inr h.1
precedes_right (x ∷ xs) a b (inr h) = inr (precedes_right xs a b h)

pub precedes_never : (xs : List ℕ) (a : ℕ) → Apart xs → Precedes xs a a → ⊥
precedes_never [] a apart h = h
precedes_never (x ∷ xs) a apart (inl h) = apart.0 (subst (λ z. In z xs) h.0 h.1)
precedes_never (x ∷ xs) a apart (inr h) = precedes_never xs a apart.1 h

pub precedes_through : (xs : List ℕ) (a b c : ℕ) → Apart xs → Precedes xs a b → Precedes xs b c → Precedes xs a c
precedes_through [] a b c apart h k = h
precedes_through (x ∷ xs) a b c apart (inl h) (inl k) = inl (h.0, k.1)
precedes_through (x ∷ xs) a b c apart (inl h) (inr k) = inl (h.0, precedes_right xs b c k)
precedes_through (x ∷ xs) a b c apart (inr h) (inl k) = absurd (apart.0 (subst (λ z. In z xs) k.0 (precedes_right xs a b h)))
precedes_through (x ∷ xs) a b c apart (inr h) (inr k) = inr (precedes_through xs a b c apart.1 h k)

pub precedes_total : (xs : List ℕ) (a b : ℕ) → In a xs → In b xs → (a ≡ b → ⊥) → Precedes xs a b ⊎ Precedes xs b a
precedes_total [] a b h k ne = absurd h
precedes_total (x ∷ xs) a b (inl e) (inl f) ne = absurd (ne (e ∙ sym f))
precedes_total (x ∷ xs) a b (inl e) (inr k) ne = inl (inl (e, k))
precedes_total (x ∷ xs) a b (inr h) (inl f) ne = inr (inl (f, h))
precedes_total (x ∷ xs) a b (inr h) (inr k) ne = ⊎_elim (λ p. inl (inr p)) (λ p. inr (inr p)) (precedes_total xs a b h k ne)

-- what is in the first part stands before what is in the second
pub precedes_across : (xs ys : List ℕ) (a b : ℕ) → In a xs → In b ys → Precedes (xs ++ ys) a b
precedes_across [] ys a b h k = absurd h
precedes_across (x ∷ xs) ys a b (inl e) k = inl (e, in_right b xs ys k)
precedes_across (x ∷ xs) ys a b (inr h) k = inr (precedes_across xs ys a b h k)

pub precedes_in_left : (xs ys : List ℕ) (a b : ℕ) → Precedes xs a b → Precedes (xs ++ ys) a b
precedes_in_left [] ys a b h = absurd h
precedes_in_left (x ∷ xs) ys a b (inl h) = inl (h.0, in_left b xs ys h.1)
precedes_in_left (x ∷ xs) ys a b (inr h) = inr (precedes_in_left xs ys a b h)

pub precedes_in_right : (xs ys : List ℕ) (a b : ℕ) → Precedes ys a b → Precedes (xs ++ ys) a b
precedes_in_right [] ys a b h = h
precedes_in_right (x ∷ xs) ys a b h = inr (precedes_in_right xs ys a b h)

-- a list is sorted by what puts its items as they stand
pub sorted_from : (co : Order) (xs : List ℕ) → ((a b : ℕ) → Precedes xs a b → co a b ≡ true) → Sorted co xs
sorted_from co [] h = tt
sorted_from co (x ∷ xs) h = (λ y k. h x y (inl (refl, k)), sorted_from co xs (λ a b p. h a b (inr p)))

pub sorted_precedes : (co : Order) (xs : List ℕ) (a b : ℕ) → Sorted co xs → Precedes xs a b → co a b ≡ true
sorted_precedes co [] a b s h = absurd h
sorted_precedes co (x ∷ xs) a b s (inl h) = subst (λ z. co z b ≡ true) (sym h.0) (s.0 b h.1)
sorted_precedes co (x ∷ xs) a b s (inr h) = sorted_precedes co xs a b s.1 h

-- the tests decide what they say
pub member_decided : (a : ℕ) (xs : List ℕ) → Decides (member a xs) (In a xs)
unfolding member
member_decided a [] = (λ e. absurd (false≢true e), λ h. absurd h)
member_decided a (x ∷ xs) = Decides-or (eqb a x) (member a xs) (Decides-eqb a x) (member_decided a xs)

pub precedes_decided : (xs : List ℕ) (a b : ℕ) → Decides (precedes xs a b) (Precedes xs a b)
unfolding precedes
precedes_decided [] a b = (λ e. absurd (false≢true e), λ h. absurd h)
precedes_decided (x ∷ xs) a b =
    Decides-or (eqb a x && member b xs) (precedes xs a b) (Decides-and (eqb a x) (member b xs) (Decides-eqb a x) (member_decided b xs)) (precedes_decided xs a b)

-- two sorted lists of the same items are the same
sorted_head : (co : Order) (x y : ℕ) (xs ys : List ℕ) → ((a b : ℕ) → co a b ≡ true → co b a ≡ true → ⊥) → Sorted co (x ∷ xs) → Sorted co (y ∷ ys) → In x (y ∷ ys) → In y (x ∷ xs) → x ≡ y
sorted_head co x y xs ys never s t (inl e) k = e
sorted_head co x y xs ys never s t (inr h) (inl f) = sym f
sorted_head co x y xs ys never s t (inr h) (inr k) = absurd (never x y (s.0 y k) (t.0 x h))

pub sorted_one : (co : Order) (xs ys : List ℕ) → ((a b : ℕ) → co a b ≡ true → co b a ≡ true → ⊥) → Sorted co xs → Sorted co ys → ((z : ℕ) → In z xs → In z ys) → ((z : ℕ) → In z ys → In z xs) → xs ≡ ys
sorted_one co [] [] never s t there back = refl
sorted_one co [] (y ∷ ys) never s t there back = absurd (back y (inl refl))
sorted_one co (x ∷ xs) [] never s t there back = absurd (there x (inl refl))
sorted_one co (x ∷ xs) (y ∷ ys) never s t there back =
    let e = sorted_head co x y xs ys never s t (there x (inl refl)) (back y (inl refl)) in
    let rest = sorted_one co xs ys never s.1 t.1 (rest_of x y xs ys e (λ k. never x x (s.0 x k) (s.0 x k)) there) (rest_of y x ys xs (sym e) (λ k. never y y (t.0 y k) (t.0 y k)) back) in
    cc

-- a list with one more item, put where the order has it
unfoldable pub insert : Order → ℕ → List ℕ → List ℕ
insert co a [] = a ∷ []
insert co a (x ∷ xs) = cond (co a x) (a ∷ (x ∷ xs)) (x ∷ insert co a xs)

unfoldable pub sort : Order → List ℕ → List ℕ
sort co [] = []
sort co (x ∷ xs) = insert co x (sort co xs)

insert_in : (co : Order) (a z : ℕ) (xs : List ℕ) → In z (insert co a xs) → (z ≡ a) ⊎ In z xs
unfolding insert
insert_in co a z [] h = h
insert_in co a z (x ∷ xs) h =
    (elim (co a x) as (λ b. In z (cond b (a ∷ (x ∷ xs)) (x ∷ insert co a xs)) → (z ≡ a) ⊎ In z (x ∷ xs))
    [ true ↦ λ k. k | false ↦ ⊎_elim (λ e. inr (inl e)) (λ k. ⊎_elim inl (λ i. inr (inr i)) (insert_in co a z xs k)) ]) h

insert_has : (co : Order) (a z : ℕ) (xs : List ℕ) → (z ≡ a) ⊎ In z xs → In z (insert co a xs)
unfolding insert
insert_has co a z [] h = h
insert_has co a z (x ∷ xs) h =
    elim (co a x) as (λ b. In z (cond b (a ∷ (x ∷ xs)) (x ∷ insert co a xs)))
    [ true ↦ h | false ↦ ⊎_elim (λ e. inr (insert_has co a z xs (inl e))) (⊎_elim inl (λ k. inr (insert_has co a z xs (inr k)))) h ]

-- the item is put at its place
insert_step : (co : Order) (a x : ℕ) (xs : List ℕ) (b : Bool) → co a x ≡ b → ((p q r : ℕ) → co p q ≡ true → co q r ≡ true → co p r ≡ true) → (co a x ≡ true) ⊎ (co x a ≡ true) → Sorted co (x ∷ xs) → Sorted co (insert co a xs) → Sorted co (cond b (a ∷ (x ∷ xs)) (x ∷ insert co a xs))
insert_step co a x xs true e through one s rest = (λ y. ⊎_elim (λ f. subst (λ z. co a z ≡ true) (sym f) e) (λ h. through a x y e (s.0 y h)), s)
insert_step co a x xs false e through one s rest =
    let back : co x a ≡ true = ⊎_elim (λ h. absurd (both_ways (co a x) e h)) (λ h. h) one in
    (λ y h. ⊎_elim (λ f. subst (λ z. co x z ≡ true) (sym f) back) (s.0 y) (insert_in co a y xs h), rest)

insert_sorted : (co : Order) (a : ℕ) (xs : List ℕ) → ((p q r : ℕ) → co p q ≡ true → co q r ≡ true → co p r ≡ true) → ((x : ℕ) → In x xs → (co a x ≡ true) ⊎ (co x a ≡ true)) → Sorted co xs → Sorted co (insert co a xs)
unfolding insert
insert_sorted co a [] through one s = (λ y h. absurd h, tt)
insert_sorted co a (x ∷ xs) through one s =
    insert_step co a x xs (co a x) refl through (one x (inl refl)) s (insert_sorted co a xs through (λ y h. one y (inr h)) s.1)

-- sorting keeps the items
pub sort_in : (co : Order) (z : ℕ) (xs : List ℕ) → In z (sort co xs) → In z xs
unfolding sort
sort_in co z [] h = h
sort_in co z (x ∷ xs) h = ⊎_elim inl (λ k. inr (sort_in co z xs k)) (insert_in co x z (sort co xs) h)

pub sort_has : (co : Order) (z : ℕ) (xs : List ℕ) → In z xs → In z (sort co xs)
unfolding sort
sort_has co z [] h = h
sort_has co z (x ∷ xs) h = insert_has co x z (sort co xs) (⊎_elim inl (λ k. inr (sort_has co z xs k)) h)

-- and sorts, where of two items one is before the other
pub sort_sorted : (co : Order) (xs : List ℕ) → Apart xs → ((p q r : ℕ) → co p q ≡ true → co q r ≡ true → co p r ≡ true) → ((x y : ℕ) → In x xs → In y xs → (x ≡ y → ⊥) → (co x y ≡ true) ⊎ (co y x ≡ true)) → Sorted co (sort co xs)
unfolding sort
sort_sorted co [] a through one = tt
sort_sorted co (x ∷ xs) a through one =
    insert_sorted co x (sort co xs) through
    (λ y h. let k = sort_in co y xs h in one x y (inl refl) (inr k) (λ e. a.0 (subst (λ z. In z xs) (sym e) k)))
    (sort_sorted co xs a.1 through (λ y z h k. one y z (inr h) (inr k)))

-- the numbers below a bound that pass a test: one more number
those_last : (n x : ℕ) (b : Bool) → In x (cond b (n ∷ []) []) → (x ≡ n) × (b ≡ true)
those_last n x true (inl f) = (f, refl)
those_last n x true (inr h) = absurd h
those_last n x false h = absurd h

pub those_in : (p : ℕ → Bool) (n x : ℕ) → In x (those p n) → (x < n) × (p x ≡ true)
unfolding those
those_in p zero x h = absurd h
those_in p (suc n) x h =
    ⊎_elim (λ k. let t = those_in p n x k in (omega (arith, t.0), t.1)) (λ k. let t = those_last n x (p n) k in (omega (arith, t.0), ap p t.0 ∙ t.1)) (in_append x (those p n) (cond (p n) (n ∷ []) []) h)

pub those_has : (p : ℕ → Bool) (n x : ℕ) → x < n → p x ≡ true → In x (those p n)
unfolding those
those_has p zero x lt h = absurd (not-suc-le-zero lt)
those_has p (suc n) x lt h =
    ⊎_elim (λ e. in_right x (those p n) (cond (p n) (n ∷ []) []) (subst (λ b. In x (cond b (n ∷ []) [])) (sym h ∙ ap p e) (inl e))) (λ ne. let less : x < n = omega arith in in_left x (those p n) (cond (p n) (n ∷ []) []) (those_has p n x less h)) (cases_eq x n)

-- they rise
last_rising : (n : ℕ) (b : Bool) → Rising (cond b (n ∷ []) [])
last_rising n true = (λ y h. absurd h, tt)
last_rising n false = tt

pub those_rising : (p : ℕ → Bool) (n : ℕ) → Rising (those p n)
unfolding those
those_rising p zero = tt
those_rising p (suc n) =
    sorted_append ltb (those p n) (cond (p n) (n ∷ []) []) (those_rising p n) (last_rising n (p n))
    (λ x y h k. let s = those_in p n x h in let t = those_last n y (p n) k in lt-ltb x y (omega (arith, s.0, t.0)))

-- a range of one number more
pub range_more : (n : ℕ) → range_with_len 0 (suc n) ≡ range_with_len 0 n ++ (n ∷ [])
range_more n =
    ap (range_with_len 0) (sym (add-one n)) ∙ sym (map-id (range_with_len 0 (n + 1))) ∙ map-range_with_len_more (λ k. k) 0 n n (omega arith)
    ∙ ap (λ xs. xs ++ (n ∷ [])) (map-id (range_with_len 0 n))

-- they are the library's numbers of a range that pass
pub those_filter : (p : ℕ → Bool) (n : ℕ) → those p n ≡ filter p (range_with_len 0 n)
unfolding those
those_filter p zero = refl
those_filter p (suc n) =
    ap (λ xs. xs ++ cond (p n) (n ∷ []) []) (those_filter p n) ∙ sym (ap (filter p) (range_more n) ∙ filter-append p (range_with_len 0 n) (n ∷ []))

-- tests that agree below the bound choose the same numbers
pub those_same : (p q : ℕ → Bool) (n : ℕ) → ((k : ℕ) → k < n → p k ≡ q k) → those p n ≡ those q n
unfolding those
those_same p q zero same = refl
those_same p q (suc n) same = ap₂ ◌++◌ (those_same p q n (λ k lt. same k (omega arith))) (ap (λ b. cond b (n ∷ []) []) (same n (omega arith)))
