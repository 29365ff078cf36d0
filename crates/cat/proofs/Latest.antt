-- The latest binding of a name, and what is given under one. Assumes nothing.
use Rattle.std.proofs.Common.{◌≡◌, ℕ, zero, suc, ◌+◌, ◌<◌, Bool, true, false, cond, ◌⊎◌, List, [], ◌∷◌, map, length, get_or, Some, None, Option, sym, refl, ap, ◌∙◌, subst, inl, inr, ⊎_elim, arith}
use Rattle.std.proofs.lemmas.Bool.{cases_order}
use borrow.Author.Tests.{clash}
use Rattle.std.specs.Str.{bytes_eq}
use Rattle.std.proofs.lemmas.Slice.Eq.{bytes_eq-Decides}
use Rattle.finite.specs.Lists.{In, At}
use Rattle.term.specs.declared.term.Given.{Given}
use Rattle.cat.specs.Sorts.{Tokens}
use Rattle.cat.specs.Scopes.{name_at, names_of, beside, given_as, given_names, latest_from, latest, Refers}
use Rattle.cat.specs.Laws.{LatestBinding, GivenOnce}

-- the name stands in the list last at this place
pub record Last (n : List ℕ) (names : List (List ℕ)) (j : ℕ) : Type 0 where
  pub here : At names j n
  pub none : (k : ℕ) → j < k → At names k n → ⊥

-- it stands nowhere in the list
abbrev Nowhere : List ℕ → List (List ℕ) → Type 0
Nowhere n names = (j : ℕ) → At names j n → ⊥

-- what is found: the last place, or what was found before
abbrev Found : List ℕ → ℕ → List (List ℕ) → Option ℕ → Option ℕ → Type 0
Found n i names so_far r = ((j : ℕ) × (r ≡ Some (i + j)) × Last n names j) ⊎ ((r ≡ so_far) × Nowhere n names)

-- a name more in front: further on, here, or not at all
further : (n m : List ℕ) (names : List (List ℕ)) (j : ℕ) → Last n names j → Last n (m ∷ names) (suc j)
further n m names j h = record { here = h.here; none = none }
  where
    none : (k : ℕ) → suc j < k → At (m ∷ names) k n → ⊥
    none zero lt at = omega arith
    none (suc k) lt at = h.none k (omega arith) at

first : (n m : List ℕ) (names : List (List ℕ)) → n ≡ m → Nowhere n names → Last n (m ∷ names) 0
first n m names e h = record { here = e; none = none }
  where
    none : (k : ℕ) → 0 < k → At (m ∷ names) k n → ⊥
    none zero lt at = omega arith
    none (suc k) lt at = h k at

nowhere : (n m : List ℕ) (names : List (List ℕ)) → (n ≡ m → ⊥) → Nowhere n names → Nowhere n (m ∷ names)
nowhere n m names other h zero at = other at
nowhere n m names other h (suc k) at = h k at

step : (n m : List ℕ) (i : ℕ) (names : List (List ℕ)) (so_far : Option ℕ) (b : Bool) (r : Option ℕ) → bytes_eq n m ≡ b → Found n (i + 1) names (cond b (Some i) so_far) r → Found n i (m ∷ names) so_far r
step n m i names so_far b r e (inl (j, is, last)) = inl (suc j, is ∙ ap Some (let z : i + 1 + j ≡ i + suc j = omega arith in z), further n m names j last)
step n m i names so_far true r e (inr (is, none)) = inl (0, is ∙ ap Some (let z : i ≡ i + 0 = omega arith in z), first n m names ((bytes_eq-Decides n m).0 e) none)
step n m i names so_far false r e (inr (is, none)) = inr (is, nowhere n m names (λ same. clash (sym e ∙ (bytes_eq-Decides n m).1 same)) none)

found : (n : List ℕ) (i : ℕ) (names : List (List ℕ)) (so_far : Option ℕ) → Found n i names so_far (latest_from n i names so_far)
unfolding latest_from
found n i [] so_far = inr (refl, λ j at. at)
found n i (m ∷ names) so_far = step n m i names so_far (bytes_eq n m) _ refl (found n (i + 1) names (cond (bytes_eq n m) (Some i) so_far))

pub latest_binding : LatestBinding
latest_binding n names = told (latest n names) (found n 0 names None)
  where
    told : (r : Option ℕ) → Found n 0 names None r → Refers n names r
    told r (inl (j, is, last)) = subst (Refers n names) (sym (is ∙ ap Some (let z : 0 + j ≡ j = omega arith in z))) (last.here, last.none)
    told r (inr (is, none)) = subst (Refers n names) (sym is) none

-- only one number is
refers_one : (n : List ℕ) (names : List (List ℕ)) (r s : Option ℕ) → Refers n names r → Refers n names s → r ≡ s
refers_one n names None None h g = refl
refers_one n names None (Some k) h g = absurd (h k g.0)
refers_one n names (Some j) None h g = absurd (g j h.0)
refers_one n names (Some j) (Some k) h g = ap Some (⊎_elim (λ e. e) (⊎_elim (λ lt. absurd (h.1 k lt g.0)) (λ lt. absurd (g.1 j lt h.0))) (cases_order j k))

-- what stands at a place of a mapped list
at_place : {A B : Type 0} (f : A → B) (xs : List A) (i : ℕ) (d : A) (y : B) → i < length xs → y ≡ f (get_or xs i d) → At (map f xs) i y
at_place f [] i d y lt e = absurd (omega arith)
at_place f (x ∷ xs) zero d y lt e = e
at_place f (x ∷ xs) (suc i) d y lt e = at_place f xs i d y (omega arith) e

place_at : {A B : Type 0} (f : A → B) (xs : List A) (i : ℕ) (d : A) (y : B) → At (map f xs) i y → (i < length xs) × (y ≡ f (get_or xs i d))
place_at f [] i d y h = absurd h
place_at f (x ∷ xs) zero d y h = (omega arith, h)
place_at f (x ∷ xs) (suc i) d y h = let r = place_at f xs i d y h in (omega (arith, r.0), r.1)

module _ (found : Tokens) (n : List ℕ) (bound : List ℕ) where
  -- the name of a bound token is this one, or it is not
  abbrev Same : ℕ → Bool → Type 0
  Same k b = bytes_eq n (name_at found (get_or bound k 0)) ≡ b

  other : (k : ℕ) → (k < length bound → Same k false) → At (names_of found bound) k n → ⊥
  other k h at = let p = place_at (name_at found) bound k 0 n at in clash (sym (h p.0) ∙ (bytes_eq-Decides n (name_at found (get_or bound k 0))).1 p.1)

  -- the last place where it stands is that of the latest binding; where it stands nowhere, there is none
  pub latest_at : (i : ℕ) → i < length bound → Same i true → ((k : ℕ) → i < k → k < length bound → Same k false) → latest n (names_of found bound) ≡ Some i
  latest_at i lt here after =
      refers_one n (names_of found bound) (latest n (names_of found bound)) (Some i) (latest_binding n (names_of found bound))
      (at_place (name_at found) bound i 0 n lt ((bytes_eq-Decides n (name_at found (get_or bound i 0))).0 here), λ k further. other k (after k further))

  pub latest_nowhere : ((k : ℕ) → k < length bound → Same k false) → latest n (names_of found bound) ≡ None
  latest_nowhere none = refers_one n (names_of found bound) (latest n (names_of found bound)) None (latest_binding n (names_of found bound)) (λ k. other k (none k))

-- what is found beside a name is listed so
listed : (n : List ℕ) (g : Given) (list : List (List ℕ × Given)) → beside n list ≡ Some g → In (n, g) list
unfolding beside
listed n g [] h = let z : ◌≡◌ {A = ℕ} 0 1 = cc in absurd (omega arith)
listed n g ((m, k) ∷ more) h = go (bytes_eq n m) refl h (listed n g more)
  where
    go : (b : Bool) → bytes_eq n m ≡ b → cond b (Some k) (beside n more) ≡ Some g → (beside n more ≡ Some g → In (n, g) more) → In (n, g) ((m, k) ∷ more)
    go true e f later = let same = (bytes_eq-Decides n m).0 e in let z : (n, g) ≡ (m, k) = cc in inl z
    go false e f later = inr (later f)

-- what is listed is found, where each entry is
abbrev Each : List (List ℕ × Given) → Type 0
Each [] = Unit {0}
Each (p ∷ more) = (given_as p.0 ≡ Some p.1) × Each more

listed_found : (n : List ℕ) (g : Given) (list : List (List ℕ × Given)) → Each list → In (n, g) list → given_as n ≡ Some g
listed_found n g [] each h = absurd h
listed_found n g (p ∷ more) each (inl e) = subst (λ q. given_as q.0 ≡ Some q.1) (sym e) each.0
listed_found n g (p ∷ more) each (inr h) = listed_found n g more each.1 h

each_found : Each given_names
unfolding given_as beside
each_found = (refl, (refl, (refl, (refl, (refl, (refl, (refl, (refl, (refl, (refl, (refl, (refl, (refl, tt)))))))))))))

pub given_once : GivenOnce
unfolding given_as
given_once n g = (listed n g given_names, listed_found n g given_names each_found)
