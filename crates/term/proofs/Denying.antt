-- Names that are denied: the tokens that are computed are those by which a binding of the group is named under `~` or right of `\`. Assumes nothing.
use Rattle.std.proofs.Common.{◌≡◌, ℕ, ◌+◌, ◌<◌, ◌≤◌, Bool, true, false, ◌||◌, ltb, leb, ◌⊎◌, List, [], ◌∷◌, ◌++◌, refl, subst, inl, inr, ⊎_elim}
use Rattle.std.proofs.lemmas.Bool.{leb-true, ltb-true, le-leb, lt-ltb, and_parts, and_from}
use Rattle.finite.specs.Lists.{In}
use Rattle.term.specs.Least.{fault_if}
use Rattle.term.specs.Terms.{Term, given, bound, unbound, test, complement, ended, joined, Infix, bar, semicolon, backslash, ampersand, product}
use Rattle.term.specs.Recursion.{of_group, denies_right, denied}
use Rattle.term.specs.Laws.{Named, NamedDenied, DeniedNames}

-- what is in two lists joined
pub in_either : {A : Type 0} (x : A) (xs ys : List A) → In x (xs ++ ys) → In x xs ⊎ In x ys
in_either x [] ys h = inr h
in_either x (y ∷ xs) ys (inl e) = inl (inl e)
in_either x (y ∷ xs) ys (inr h) = ⊎_elim (λ i. inl (inr i)) inr (in_either x xs ys h)

pub in_first : {A : Type 0} (x : A) (xs ys : List A) → In x xs → In x (xs ++ ys)
in_first x [] ys h = absurd h
in_first x (y ∷ xs) ys (inl e) = inl e
in_first x (y ∷ xs) ys (inr h) = inr (in_first x xs ys h)

pub in_second : {A : Type 0} (x : A) (xs ys : List A) → In x ys → In x (xs ++ ys)
in_second x [] ys h = h
in_second x (y ∷ xs) ys h = inr (in_second x xs ys h)

-- a place that is at fault if a test holds
in_fault : (holds : Bool) (k x : ℕ) → In x (fault_if holds k) → (holds ≡ true) × (x ≡ k)
in_fault true k x (inl e) = (refl, e)
in_fault true k x (inr h) = absurd h
in_fault false k x h = absurd h

fault_in : (holds : Bool) (k : ℕ) → holds ≡ true → In k (fault_if holds k)
fault_in holds k e = rw e (inl refl)

-- the number of a binding of the group
group_from : (first many i : ℕ) → of_group first many i ≡ true → (first ≤ i) × (i < first + many)
group_from first many i e = let p = and_parts (leb first i) (ltb i (first + many)) e in (leb-true first i p.0, ltb-true i (first + many) p.1)

group_to : (first many i : ℕ) → first ≤ i → i < first + many → of_group first many i ≡ true
group_to first many i l m = and_from (leb first i) (ltb i (first + many)) (le-leb first i l) (lt-ltb i (first + many) m)

-- some binding of the group is named so, by this token
abbrev SomeNamed : (ℕ → Type 0) → ℕ → ℕ → Type 0
SomeNamed P first many = (i : ℕ) × (first ≤ i) × (i < first + many) × P i

some_as : {P Q : ℕ → Type 0} (first many : ℕ) → ((i : ℕ) → P i → Q i) → SomeNamed P first many → SomeNamed Q first many
some_as first many f (i, l, m, p) = (i, l, m, f i p)

module _ (first many x : ℕ) where
  -- under a `~` or right of a `\`, each name of the group is denied
  named_from : (t : Term) → In x (denied first many true t) → SomeNamed (λ i. Named i x t) first many
  unfolding denied
  named_from (given g) h = absurd h
  named_from (bound k i) h =
      let f = in_fault (of_group first many i) k x h in
      let g = group_from first many i f.0 in
      (i, g.0, g.1, subst (λ j. Named i x (bound j i)) f.1 Named.here)
  named_from (unbound k) h = absurd h
  named_from (test k t) h = some_as first many (λ i n. Named.in_test k t n) (named_from t h)
  named_from (complement t) h = some_as first many (λ i n. Named.in_complement t n) (named_from t h)
  named_from (ended k p t) h = some_as first many (λ i n. Named.in_ended k p t n) (named_from t h)
  named_from (joined k s l r) h =
      ⊎_elim (λ i. some_as first many (λ i n. Named.in_left k s l r n) (named_from l i)) (λ i. some_as first many (λ i n. Named.in_right k s l r n) (named_from r i))
      (in_either x (denied first many true l) (denied first many true r) h)

  named_to : (i : ℕ) → first ≤ i → i < first + many → (t : Term) → Named i x t → In x (denied first many true t)
  unfolding denied
  named_to i l m t Named.here = fault_in (of_group first many i) x (group_to first many i l m)
  named_to i l m t (Named.in_test k u n) = named_to i l m u n
  named_to i l m t (Named.in_complement u n) = named_to i l m u n
  named_to i l m t (Named.in_ended k p u n) = named_to i l m u n
  named_to i l m t (Named.in_left k s u v n) = in_first x (denied first many true u) (denied first many true v) (named_to i l m u n)
  named_to i l m t (Named.in_right k s u v n) = in_second x (denied first many true u) (denied first many true v) (named_to i l m v n)

  -- what stands right of a sign
  right_from : (k : ℕ) (s : Infix) (l r : Term) → (In x (denied first many true r) → SomeNamed (λ i. Named i x r) first many) → (In x (denied first many false r) → SomeNamed (λ i. NamedDenied i x r) first many) →
      In x (denied first many (false || denies_right s) r) → SomeNamed (λ i. NamedDenied i x (joined k s l r)) first many
  right_from k bar l r n d h = some_as first many (λ i e. NamedDenied.in_right k bar l r e) (d h)
  right_from k semicolon l r n d h = some_as first many (λ i e. NamedDenied.in_right k semicolon l r e) (d h)
  right_from k backslash l r n d h = some_as first many (λ i e. NamedDenied.right_of k l r e) (n h)
  right_from k ampersand l r n d h = some_as first many (λ i e. NamedDenied.in_right k ampersand l r e) (d h)
  right_from k product l r n d h = some_as first many (λ i e. NamedDenied.in_right k product l r e) (d h)

  right_to : (s : Infix) (r : Term) → In x (denied first many true r) → In x (denied first many false r) → In x (denied first many (false || denies_right s) r)
  right_to bar r n d = d
  right_to semicolon r n d = d
  right_to backslash r n d = n
  right_to ampersand r n d = d
  right_to product r n d = d

  -- elsewhere, those that are named so
  denied_from : (t : Term) → In x (denied first many false t) → SomeNamed (λ i. NamedDenied i x t) first many
  unfolding denied
  denied_from (given g) h = absurd h
  denied_from (bound k i) h = absurd h
  denied_from (unbound k) h = absurd h
  denied_from (test k t) h = some_as first many (λ i n. NamedDenied.in_test k t n) (denied_from t h)
  denied_from (complement t) h = some_as first many (λ i n. NamedDenied.under t n) (named_from t h)
  denied_from (ended k p t) h = some_as first many (λ i n. NamedDenied.in_ended k p t n) (denied_from t h)
  denied_from (joined k s l r) h =
      ⊎_elim (λ i. some_as first many (λ i n. NamedDenied.in_left k s l r n) (denied_from l i)) (right_from k s l r (named_from r) (denied_from r))
      (in_either x (denied first many false l) (denied first many (false || denies_right s) r) h)

  -- what is named so is named
  denied_named : (i : ℕ) (t : Term) → NamedDenied i x t → Named i x t
  denied_named i t (NamedDenied.under u n) = Named.in_complement u n
  denied_named i t (NamedDenied.right_of k l r n) = Named.in_right k backslash l r n
  denied_named i t (NamedDenied.in_test k u n) = Named.in_test k u (denied_named i u n)
  denied_named i t (NamedDenied.in_ended k p u n) = Named.in_ended k p u (denied_named i u n)
  denied_named i t (NamedDenied.in_left k s l r n) = Named.in_left k s l r (denied_named i l n)
  denied_named i t (NamedDenied.in_right k s l r n) = Named.in_right k s l r (denied_named i r n)

  denied_to : (i : ℕ) → first ≤ i → i < first + many → (t : Term) → NamedDenied i x t → In x (denied first many false t)
  unfolding denied
  denied_to i l m t (NamedDenied.under u n) = named_to i l m u n
  denied_to i l m t (NamedDenied.right_of k u v n) = in_second x (denied first many false u) (denied first many true v) (named_to i l m v n)
  denied_to i l m t (NamedDenied.in_test k u n) = denied_to i l m u n
  denied_to i l m t (NamedDenied.in_ended k p u n) = denied_to i l m u n
  denied_to i l m t (NamedDenied.in_left k s u v n) = in_first x (denied first many false u) (denied first many (false || denies_right s) v) (denied_to i l m u n)
  denied_to i l m t (NamedDenied.in_right k s u v n) =
      in_second x (denied first many false u) (denied first many (false || denies_right s) v) (right_to s v (named_to i l m v (denied_named i v n)) (denied_to i l m v n))

pub denied_names : DeniedNames
denied_names first many k t = (denied_from first many k t, λ h. denied_to first many k h.0 h.1 h.2 t h.3)
