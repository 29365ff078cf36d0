-- The lowest of some places: of two lists, and as a loop goes through a list. Assumes nothing.
use Rattle.std.proofs.Common.{◌≡◌, ℕ, ◌+◌, ◌<◌, ◌≤◌, min, fold, Bool, true, false, ◌⊎◌, List, [], ◌∷◌, ◌++◌, length, get_or, drop, Some, None, Option, sym, refl, ap, ◌∙◌, subst, inl, inr, ⊎_elim, arith}
use Rattle.std.specs.Bool.{then_some}
use Rattle.std.specs.List.{cons_option, filter_map, reduce}
use Rattle.std.proofs.lemmas.List.{drop_more, drop_all}
use Rattle.finite.specs.Lists.{In}
use Rattle.term.specs.Least.{fault_if, lower, least, Lowest}

-- with no other place, the place stays
pub lower_none : (a : Option ℕ) → lower a None ≡ a
lower_none None = refl
lower_none (Some j) = refl

-- the lowest of three is the same in either order
pub lower_assoc : (a b c : Option ℕ) → lower (lower a b) c ≡ lower a (lower b c)
lower_assoc None b c = refl
lower_assoc (Some i) None c = refl
lower_assoc (Some i) (Some j) None = refl
lower_assoc (Some i) (Some j) (Some k) = ap Some (let z : min (min i j) k ≡ min i (min j k) = omega arith in z)

-- no places, and one
pub least_none : least [] ≡ None
unfolding least
least_none = refl

pub least_one : (k : ℕ) → least (k ∷ []) ≡ Some k
unfolding least
least_one k = refl

-- the lowest of two lists
pub least_append : (xs ys : List ℕ) → least (xs ++ ys) ≡ lower (least xs) (least ys)
unfolding least
least_append [] ys = refl
least_append (x ∷ xs) ys = ap (lower (Some x)) (least_append xs ys) ∙ sym (lower_assoc (Some x) (least xs) (least ys))

-- the lowest of two lists, from that of each
pub least_both : {r a b : Option ℕ} (xs ys : List ℕ) → r ≡ lower a b → a ≡ least xs → b ≡ least ys → r ≡ least (xs ++ ys)
least_both xs ys e f g = rw (least_append, e, f, g) refl

-- one place more
lowest_more : (k : ℕ) (ks : List ℕ) (o : Option ℕ) → Lowest ks o → Lowest (k ∷ ks) (lower (Some k) o)
lowest_more k ks None none = (inl refl, λ j. ⊎_elim (λ e. omega arith) (λ h. absurd (subst (In j) none h)))
lowest_more k ks (Some m) (in-there, under) = (at (⊎_elim inl inr (which k m)), λ j. ⊎_elim (λ e. omega arith) (λ h. omega (arith, under j h)))
  where
    which : (i j : ℕ) → (min i j ≡ i) ⊎ (min i j ≡ j)
    which i j = grind arith

    at : (min k m ≡ k) ⊎ (min k m ≡ m) → In (min k m) (k ∷ ks)
    at (inl e) = inl e
    at (inr e) = inr (subst (λ n. In n ks) (sym e) in-there)

-- what is computed is the lowest
pub lowest : (ks : List ℕ) → Lowest ks (least ks)
unfolding least
lowest [] = refl
lowest (k ∷ ks) = lowest_more k ks (least ks) (lowest ks)

pub lowest_is : (ks : List ℕ) {r : Option ℕ} → r ≡ least ks → Lowest ks r
lowest_is ks e = subst (Lowest ks) (sym e) (lowest ks)

-- the library's lowest of some places
fold_lower : (k : ℕ) (ks : List ℕ) → Some (fold min k ks) ≡ lower (Some k) (least ks)
unfolding least
fold_lower k [] = refl
fold_lower k (j ∷ ks) = fold_lower (min k j) ks ∙ lower_assoc (Some k) (Some j) (least ks)

reduce_least : (ks : List ℕ) → reduce min ks ≡ least ks
unfolding least
reduce_least [] = refl
reduce_least (k ∷ ks) = fold_lower k ks

least_cons : (o : Option ℕ) (ks : List ℕ) → least (cons_option o ks) ≡ lower o (least ks)
unfolding least
least_cons None ks = refl
least_cons (Some k) ks = refl

least_items : {X : Type 0} (faults : X → List ℕ) (F : List X → List ℕ) → F [] ≡ [] → ((x : X) (xs : List X) → F (x ∷ xs) ≡ faults x ++ F xs) → (xs : List X) → least (filter_map (λ x. least (faults x)) xs) ≡ least (F xs)
least_items faults F none step [] = ap least (sym none)
least_items faults F none step (x ∷ xs) =
    least_cons (least (faults x)) (filter_map (λ y. least (faults y)) xs) ∙ ap (lower (least (faults x))) (least_items faults F none step xs) ∙ sym (least_append (faults x) (F xs)) ∙ ap least (sym (step x xs))

-- the lowest fault of some items is that of all their faults, one after another
pub lowest_items : {X : Type 0} {r : Option ℕ} (faults : X → List ℕ) (F : List X → List ℕ) → F [] ≡ [] → ((x : X) (xs : List X) → F (x ∷ xs) ≡ faults x ++ F xs) → (xs : List X) →
    r ≡ reduce min (filter_map (λ x. least (faults x)) xs) → r ≡ least (F xs)
lowest_items faults F none step xs h = h ∙ reduce_least (filter_map (λ x. least (faults x)) xs) ∙ least_items faults F none step xs

-- of a list some part is left: the lowest so far, with that of what is left, is that of the whole
pub record Rest (fault : Option ℕ) (left whole : List ℕ) : Type 0 where
  pub is : lower fault (least left) ≡ least whole

pub rest_more : {fault here new : Option ℕ} (xs left whole : List ℕ) → Rest fault (xs ++ left) whole → here ≡ least xs → new ≡ lower fault here → Rest new left whole
rest_more {fault} {here} {new} xs left whole inv h n = record {
  is =
      ap (λ o. lower o (least left)) n ∙ lower_assoc fault here (least left) ∙ ap (λ o. lower fault (lower o (least left))) h ∙ ap (lower fault) (sym (least_append xs left))
      ∙ inv.is;
}

pub rest_done : {fault : Option ℕ} (whole : List ℕ) → Rest fault [] whole → fault ≡ least whole
rest_done {fault} whole inv = sym (lower_none fault) ∙ ap (lower fault) (sym least_none) ∙ inv.is

module _ {X : Type 0} where
  -- what is left of a list at a place is what stands there, and the rest
  pub at_place : (xs : List X) (i : ℕ) (x : X) → i < length xs → x ≡ get_or xs i x → drop i xs ≡ x ∷ drop (i + 1) xs
  at_place xs i x lt is = drop_more xs i x lt ∙ ap (λ y. y ∷ drop (i + 1) xs) (sym is)

  -- one turn of a loop through a list: what it left before, what it leaves, and the places that the turn is about
  pub rest_turn : {fault here new : Option ℕ} (F G : List X → List ℕ) (xs : List X) (i : ℕ) (x : X) (places whole : List ℕ) → i < length xs → x ≡ get_or xs i x → F (x ∷ drop (i + 1) xs) ≡ places ++ G (drop (i + 1) xs) →
      Rest fault (F (drop i xs)) whole → here ≡ least places → new ≡ lower fault here → Rest new (G (drop (i + 1) xs)) whole
  rest_turn {fault} F G xs i x places whole lt is step inv h n =
      rest_more places (G (drop (i + 1) xs)) whole (subst (λ l. Rest fault l whole) (ap F (at_place xs i x lt is) ∙ step) inv) h n

  -- the loop is over
  pub rest_end : {fault : Option ℕ} (F : List X → List ℕ) (xs : List X) (i : ℕ) (whole : List ℕ) → length xs ≤ i → F [] ≡ [] → Rest fault (F (drop i xs)) whole → fault ≡ least whole
  rest_end {fault} F xs i whole le none inv = rest_done whole (subst (λ l. Rest fault l whole) (ap F (drop_all i xs le) ∙ none) inv)

-- a place that is at fault if a test holds
pub fault_least : (test : Bool) (k : ℕ) → then_some test k ≡ least (fault_if test k)
fault_least true k = sym (least_one k)
fault_least false k = sym least_none
