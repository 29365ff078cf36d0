-- Kinds by rules: the kind that is computed is the one that the rules give. Assumes nothing.
use Rattle.std.proofs.Common.{◌≡◌, ℕ, zero, suc, ◌<◌, true, cond, not, List, [], ◌∷◌, ◌++◌, length, get_or, sym, refl, subst, inl, inr, le_of_suc-le-suc, not-suc-le-zero, arith}
use Rattle.finite.specs.Lists.{At}
use Rattle.term.specs.Least.{fault_if}
use Rattle.term.specs.declared.term.Given.TheVariants.{Universe, NoPairs, NoEvents, Reads, Writes, Fences, Branches, Memory, Initial, Settled, ProgramOrder, ReadsFrom, SameLocation, OtherThread, Identity, Coherence}
use Rattle.term.specs.Terms.{Given, Term, given, bound, unbound, test, complement, ended, joined, Post, Infix, bar, semicolon, backslash, ampersand, product}
use Rattle.term.specs.Kinds.{Kind, set, relation, torn, given_kind, as_set, as_relation, one_kind, fits, made, behind, kind, kind_faults}
use Rattle.term.specs.Laws.{Alike, OfKind, of_given, of_bound, of_test, of_complement, of_ended, of_alike, of_sequence, of_product, Untorn, Resolved, RulesOfKinds}

-- what cannot be
no_way : {A : Type 0} → ◌≡◌ {A = ℕ} 0 1 → A
no_way z = absurd (omega arith)

-- a list that begins with an item is not empty; parts of what is empty are
no_item : {A : Type 0} {k : ℕ} {ks : List ℕ} → k ∷ ks ≡ [] → A
no_item e = no_way cc

empty_right : (xs ys : List ℕ) → xs ++ ys ≡ [] → ys ≡ []
empty_right [] ys e = e
empty_right (x ∷ xs) ys e = no_item e

empty_left : (xs ys : List ℕ) → xs ++ ys ≡ [] → xs ≡ []
empty_left [] ys e = refl
empty_left (x ∷ xs) ys e = no_item e

-- what is given is not torn
given_whole : (g : Given) → given_kind g ≡ torn → ⊥
given_whole Universe e = no_way cc
given_whole NoPairs e = no_way cc
given_whole NoEvents e = no_way cc
given_whole Reads e = no_way cc
given_whole Writes e = no_way cc
given_whole Fences e = no_way cc
given_whole Branches e = no_way cc
given_whole Memory e = no_way cc
given_whole Initial e = no_way cc
given_whole Settled e = no_way cc
given_whole ProgramOrder e = no_way cc
given_whole ReadsFrom e = no_way cc
given_whole SameLocation e = no_way cc
given_whole OtherThread e = no_way cc
given_whole Identity e = no_way cc
given_whole Coherence e = no_way cc

-- what stands at a place
pub at_place : {A : Type 0} (xs : List A) (i : ℕ) (d : A) → i < length xs → At xs i (get_or xs i d)
at_place [] i d lt = absurd (not-suc-le-zero lt)
at_place (x ∷ xs) zero d lt = refl
at_place (x ∷ xs) (suc i) d lt = at_place xs i d (le_of_suc-le-suc lt)

pub place_at : {A : Type 0} (xs : List A) (i : ℕ) (d x : A) → At xs i x → get_or xs i d ≡ x
place_at [] i d x h = absurd h
place_at (y ∷ ys) zero d x h = sym h
place_at (y ∷ ys) (suc i) d x h = place_at ys i d x h

module _ (known : List Kind) (whole : Untorn known) where
  -- the rules give no torn kind
  never_torn : (t : Term) (κ : Kind) → OfKind known t κ → κ ≡ torn → ⊥
  never_torn t κ (of_given g) e = given_whole g e
  never_torn t κ (of_bound k i j h) e = whole i (subst (At known i) e h)
  never_torn t κ (of_test k u d) e = no_way cc
  never_torn t κ (of_complement u j d) e = never_torn u j d e
  never_torn t κ (of_ended k p u d) e = no_way cc
  never_torn t κ (of_alike k i l r j a d f) e = never_torn l j d e
  never_torn t κ (of_sequence k l r d f) e = no_way cc
  never_torn t κ (of_product k l r d f) e = no_way cc

  -- a test, and a sign behind an operand, with no fault
  of_tested : (k : ℕ) (t : Term) (κ : Kind) → OfKind known t κ → fault_if (not (as_set κ)) k ≡ [] → OfKind known (test k t) (cond (as_set κ) (behind κ relation) torn)
  of_tested k t set d e = of_test k t d
  of_tested k t relation d e = no_item e
  of_tested k t torn d e = absurd (never_torn t torn d refl)

  of_followed : (k : ℕ) (p : Post) (t : Term) (κ : Kind) → OfKind known t κ → fault_if (not (as_relation κ)) k ≡ [] → OfKind known (ended k p t) (cond (as_relation κ) κ torn)
  of_followed k p t set d e = no_item e
  of_followed k p t relation d e = of_ended k p t d
  of_followed k p t torn d e = absurd (never_torn t torn d refl)

  -- two operands of one kind, two relations, two sets, with no fault
  of_one_kind : (k : ℕ) (i : Infix) (l r : Term) (κ j : Kind) → Alike i → OfKind known l κ → OfKind known r j → fault_if (not (one_kind κ j)) k ≡ [] →
      OfKind known (joined k i l r) (cond (one_kind κ j) (behind κ (behind j κ)) torn)
  of_one_kind k i l r set set a d f e = of_alike k i l r set a d f
  of_one_kind k i l r set relation a d f e = no_item e
  of_one_kind k i l r set torn a d f e = absurd (never_torn r torn f refl)
  of_one_kind k i l r relation set a d f e = no_item e
  of_one_kind k i l r relation relation a d f e = of_alike k i l r relation a d f
  of_one_kind k i l r relation torn a d f e = absurd (never_torn r torn f refl)
  of_one_kind k i l r torn j a d f e = absurd (never_torn l torn d refl)

  of_two_relations : (k : ℕ) (l r : Term) (κ j : Kind) → OfKind known l κ → OfKind known r j → fault_if (not (fits semicolon κ j)) k ≡ [] →
      OfKind known (joined k semicolon l r) (cond (fits semicolon κ j) (behind κ (behind j relation)) torn)
  of_two_relations k l r set j d f e = no_item e
  of_two_relations k l r relation set d f e = no_item e
  of_two_relations k l r relation relation d f e = of_sequence k l r d f
  of_two_relations k l r relation torn d f e = absurd (never_torn r torn f refl)
  of_two_relations k l r torn j d f e = absurd (never_torn l torn d refl)

  of_two_sets : (k : ℕ) (l r : Term) (κ j : Kind) → OfKind known l κ → OfKind known r j → fault_if (not (fits product κ j)) k ≡ [] →
      OfKind known (joined k product l r) (cond (fits product κ j) (behind κ (behind j relation)) torn)
  of_two_sets k l r set set d f e = of_product k l r d f
  of_two_sets k l r set relation d f e = no_item e
  of_two_sets k l r set torn d f e = absurd (never_torn r torn f refl)
  of_two_sets k l r relation j d f e = no_item e
  of_two_sets k l r torn j d f e = absurd (never_torn l torn d refl)

  of_joined : (k : ℕ) (i : Infix) (l r : Term) (κ j : Kind) → OfKind known l κ → OfKind known r j → fault_if (not (fits i κ j)) k ≡ [] →
      OfKind known (joined k i l r) (cond (fits i κ j) (behind κ (behind j (made i κ))) torn)
  of_joined k bar l r κ j d f e = of_one_kind k bar l r κ j (inl refl) d f e
  of_joined k semicolon l r κ j d f e = of_two_relations k l r κ j d f e
  of_joined k backslash l r κ j d f e = of_one_kind k backslash l r κ j (inr (inl refl)) d f e
  of_joined k ampersand l r κ j d f e = of_one_kind k ampersand l r κ j (inr (inr refl)) d f e
  of_joined k product l r κ j d f e = of_two_sets k l r κ j d f e

  -- a term with no fault has its kind by the rules
  of_rules : (t : Term) → Resolved (length known) t → kind_faults known t ≡ [] → OfKind known t (kind known t)
  unfolding kind kind_faults
  of_rules (given g) h e = of_given g
  of_rules (bound k i) h e = of_bound k i (get_or known i torn) (at_place known i torn h)
  of_rules (unbound k) h e = absurd h
  of_rules (test k t) h e =
      let here = fault_if (not (as_set (kind known t))) k in
      of_tested k t (kind known t) (of_rules t h (empty_right here (kind_faults known t) e)) (empty_left here (kind_faults known t) e)
  of_rules (complement t) h e = of_complement t (kind known t) (of_rules t h e)
  of_rules (ended k p t) h e =
      let here = fault_if (not (as_relation (kind known t))) k in
      of_followed k p t (kind known t) (of_rules t h (empty_right here (kind_faults known t) e)) (empty_left here (kind_faults known t) e)
  of_rules (joined k i l r) h e =
      let here = fault_if (not (fits i (kind known l) (kind known r))) k in
      let both = empty_right here (kind_faults known l ++ kind_faults known r) e in
      of_joined k i l r (kind known l) (kind known r) (of_rules l h.0 (empty_left (kind_faults known l) (kind_faults known r) both))
      (of_rules r h.1 (empty_right (kind_faults known l) (kind_faults known r) both)) (empty_left here (kind_faults known l ++ kind_faults known r) e)

-- two of one kind fit, and give it
alike_fits : (i : Infix) (κ : Kind) → Alike i → (fits i κ κ ≡ true) × (behind κ (behind κ (made i κ)) ≡ κ)
alike_fits bar set a = (refl, refl)
alike_fits bar relation a = (refl, refl)
alike_fits bar torn a = (refl, refl)
alike_fits backslash set a = (refl, refl)
alike_fits backslash relation a = (refl, refl)
alike_fits backslash torn a = (refl, refl)
alike_fits ampersand set a = (refl, refl)
alike_fits ampersand relation a = (refl, refl)
alike_fits ampersand torn a = (refl, refl)
alike_fits semicolon κ (inl e) = no_way cc
alike_fits semicolon κ (inr (inl e)) = no_way cc
alike_fits semicolon κ (inr (inr e)) = no_way cc
alike_fits product κ (inl e) = no_way cc
alike_fits product κ (inr (inl e)) = no_way cc
alike_fits product κ (inr (inr e)) = no_way cc

-- what the rules give is computed, with no fault
pub record Computes (known : List Kind) (t : Term) (κ : Kind) : Type 0 where
  pub clear : kind_faults known t ≡ []
  pub same : kind known t ≡ κ

joined_computes : (known : List Kind) (k : ℕ) (i : Infix) (l r : Term) (κ j μ : Kind) → fits i κ j ≡ true → behind κ (behind j (made i κ)) ≡ μ → Computes known l κ → Computes known r j → Computes known (joined k i l r) μ
unfolding kind kind_faults
joined_computes known k i l r κ j μ f m c d = record {
  clear = rw (c.same, d.same, f, c.clear, d.clear) refl;
  same = rw (c.same, d.same, f) m;
}

pub computed : (known : List Kind) (t : Term) (κ : Kind) → OfKind known t κ → Computes known t κ
unfolding kind kind_faults
computed known t κ (of_given g) = record { clear = refl; same = refl }
computed known t κ (of_bound k i j h) = record { clear = refl; same = place_at known i torn j h }
computed known t κ (of_test k u d) = let c = computed known u set d in record { clear = rw (c.same, c.clear) refl; same = rw c.same refl }
computed known t κ (of_complement u j d) = let c = computed known u j d in record { clear = c.clear; same = c.same }
computed known t κ (of_ended k p u d) = let c = computed known u relation d in record { clear = rw (c.same, c.clear) refl; same = rw c.same refl }
computed known t κ (of_alike k i l r j a d f) = let e = alike_fits i j a in joined_computes known k i l r j j j e.0 e.1 (computed known l j d) (computed known r j f)
computed known t κ (of_sequence k l r d f) = joined_computes known k semicolon l r relation relation relation refl refl (computed known l relation d) (computed known r relation f)
computed known t κ (of_product k l r d f) = joined_computes known k product l r set set relation refl refl (computed known l set d) (computed known r set f)

pub rules_of_kinds : RulesOfKinds
rules_of_kinds known t whole h = record {
  of = of_rules known whole t h;
  only = λ κ d. let c = computed known t κ d in (c.clear, c.same);
}
