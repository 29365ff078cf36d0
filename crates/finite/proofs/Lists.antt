-- Lists as finite sets: places, removing an item at its place, and mapping a list. Assumes nothing.
use Rattle.std.proofs.Common.{◌≡◌, ℕ, zero, suc, ◌<◌, ◌≤◌, List, [], ◌∷◌, map, length, sym, refl, ap, ◌∙◌, inl, inr, suc-le-suc, zero-le, not-suc-le-zero}
use Rattle.finite.specs.Lists.{In, Apart, At}

module _ {A : Type 0} where
  -- What is in a list stands at a place below its length.
  pub placed : (x : A) (xs : List A) → In x xs → (i : ℕ) × (i < length xs) × At xs i x
  placed x [] h = absurd h
  placed x (y ∷ ys) (inl e) = (zero, suc-le-suc zero-le, e)
  placed x (y ∷ ys) (inr h) = let t = placed x ys h in (suc t.0, suc-le-suc t.1, t.2)

  -- What stands at a place of a list is in it.
  pub held : (x : A) (xs : List A) (i : ℕ) → At xs i x → In x xs
  held x [] i h = absurd h
  held x (y ∷ ys) zero h = inl h
  held x (y ∷ ys) (suc i) h = inr (held x ys i h)

  -- A list that is not empty has a first item.
  pub first : (xs : List A) → 0 < length xs → (x : A) × In x xs
  first [] l = absurd (not-suc-le-zero l)
  first (x ∷ xs) l = (x, inl refl)

  -- A list without the item that stands where x is in it.
  without : (x : A) (xs : List A) → In x xs → List A
  without x [] h = []
  without x (y ∷ ys) (inl e) = ys
  without x (y ∷ ys) (inr h) = y ∷ without x ys h

  -- The list without an item is one shorter.
  length_without : (x : A) (xs : List A) (h : In x xs) → length xs ≡ suc (length (without x xs h))
  unfolding without
  length_without x [] h = absurd h
  length_without x (y ∷ ys) (inl e) = refl
  length_without x (y ∷ ys) (inr h) = ap suc (length_without x ys h)

  -- What is in a list and is not x is in the list without x.
  in_without : (x z : A) (xs : List A) (h : In x xs) → (z ≡ x → ⊥) → In z xs → In z (without x xs h)
  unfolding without
  in_without x z [] h n k = k
  in_without x z (y ∷ ys) (inl e) n (inl f) = absurd (n (f ∙ sym e))
  in_without x z (y ∷ ys) (inl e) n (inr k) = k
  in_without x z (y ∷ ys) (inr h) n (inl f) = inl f
  in_without x z (y ∷ ys) (inr h) n (inr k) = inr (in_without x z ys h n k)

  -- A list without repeats is no longer than a list that has all its items.
  pub no_longer : (xs ys : List A) → Apart xs → ((x : A) → In x xs → In x ys) → length xs ≤ length ys
  no_longer [] ys a s = zero-le
  no_longer (x ∷ xs) ys a s =
      let h = s x (inl refl) in
      let kept : (z : A) → In z xs → In z (without x ys h) = λ z k. in_without x z ys h (λ e. a.0 (rw (← e) k)) (s z (inr k)) in
      rw (length_without x ys h) (suc-le-suc (no_longer xs (without x ys h) a.1 kept))

module _ {A B : Type 0} (f : A → B) where
  -- The map of what is in a list is in the mapped list.
  pub in_map : (x : A) (xs : List A) → In x xs → In (f x) (map f xs)
  in_map x [] h = absurd h
  in_map x (y ∷ ys) (inl e) = inl (ap f e)
  in_map x (y ∷ ys) (inr h) = inr (in_map x ys h)

  -- What is in the mapped list comes from an item of the list.
  pub in_map_from : (y : B) (xs : List A) → In y (map f xs) → (x : A) × In x xs × (y ≡ f x)
  in_map_from y [] h = absurd h
  in_map_from y (x ∷ xs) (inl e) = (x, inl refl, e)
  in_map_from y (x ∷ xs) (inr h) = let t = in_map_from y xs h in (t.0, inr t.1, t.2)

  -- A map that is one-to-one on a list without repeats makes none.
  pub apart_map : (xs : List A) → ((x y : A) → In x xs → In y xs → f x ≡ f y → x ≡ y) → Apart xs → Apart (map f xs)
  apart_map [] one a = tt
  apart_map (x ∷ xs) one a =
      let fresh : In (f x) (map f xs) → ⊥ = λ h. let t = in_map_from (f x) xs h in a.0 (rw (one x t.0 (inl refl) (inr t.1) t.2) t.1) in
      (fresh, apart_map xs (λ u v h k. one u v (inr h) (inr k)) a.1)
