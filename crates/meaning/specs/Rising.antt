-- A term in which no name of a group is denied means more where the names of the group mean more. Assumes nothing.
use Rattle.std.specs.Prelude.{◌≡◌, ℕ, zero, suc, ◌+◌, ◌<◌, ◌≤◌, Bool, true, false, List, [], ◌∷◌, ◌++◌, length, nat_le, nat_lt, slice_index_or, refl}
use Rattle.std.proofs.Common.{sym, ◌∙◌, ap, subst, arith}
use Rattle.std.proofs.Math.Logic.{⊎_elim}
use Rattle.std.proofs.lemmas.List.{length-append, length-map}
use Rattle.std.proofs.lemmas.Bool.{leb-false, ltb-false, and_cases, cases_Bool}
use Rattle.finite.specs.Lists.{At}
use Rattle.relation.specs.Relations.{Never, Pairs, Inside}
use Rattle.relation.specs.Values.{Meaning, of_pairs}
use Rattle.term.specs.declared.term.Given.TheVariants.{Universe}
use Rattle.term.specs.Least.{fault_if}
use Rattle.term.specs.Terms.{Term, given, bound, unbound, test, complement, ended, joined}
use Rattle.term.specs.Statements.{Binding}
use Rattle.term.specs.Recursion.{of_group, denies_right, denied, group_denied}
use Rattle.given.specs.Bases.{Same, base_meaning}
use Rattle.meaning.specs.Operators.{events_of}
use Rattle.meaning.specs.Meanings.{Base, meaning}
use Rattle.meaning.specs.Groups.{as_meanings}
use Rattle.meaning.specs.Tables.{value_meaning}
use Rattle.meaning.specs.Systems.{System, before, names, Body, Positive}
use Rattle.meaning.specs.Sameness.{Below, below_self, same_self, same_below, same_above, pairs_below, infixed_below, postfixed_below, outside_below, tested_below, infixed_same, postfixed_same, outside_same, tested_same}

-- what a name without a binding means
abbrev pub never : Meaning
never = of_pairs Never

-- past the end of a list of meanings
pub past_at : (ms : List Meaning) (n : ℕ) → length ms ≤ n → slice_index_or ms n never ≡ never
past_at [] n l = refl
past_at (m ∷ ms) zero l = absurd (omega arith)
past_at (m ∷ ms) (suc n) l = past_at ms n (omega arith)

-- meanings that are equal are the same
pub path_same : {m n : Meaning} → m ≡ n → Same m n
path_same {m} e = subst (Same m) e (same_self m)

-- the meanings of the group's names rise, and the others are the same
pub record Rises (first many : ℕ) (ns ms : List Meaning) : Type 0 where
  pub within : (i : ℕ) → of_group first many i ≡ true → Below (slice_index_or ns i never) (slice_index_or ms i never)
  pub beyond : (i : ℕ) → of_group first many i ≡ false → Same (slice_index_or ns i never) (slice_index_or ms i never)

-- both parts of what is empty are
pub empty_parts : (xs ys : List ℕ) → (xs ++ ys) ≡ [] → (xs ≡ []) × (ys ≡ [])
empty_parts [] ys e = (refl, e)
empty_parts (x ∷ xs) ys e = let z : ◌≡◌ {A = ℕ} 0 1 = cc in absurd (omega arith)

-- without fault the test does not hold
fault_none : (b : Bool) (k : ℕ) → fault_if b k ≡ [] → b ≡ false
fault_none true k e = let z : ◌≡◌ {A = ℕ} 0 1 = cc in absurd (omega arith)
fault_none false k e = refl

module _ (base : Base) (first many : ℕ) (ns ms : List Meaning) (up : Rises first many ns ms) where
  -- a term without names of the group means the same
  fixed : (t : Term) → denied first many true t ≡ [] → Same (meaning base ns t) (meaning base ms t)
  unfolding denied meaning
  fixed (given g) e = same_self (base g)
  fixed (bound k i) e = up.beyond i (fault_none (of_group first many i) k e)
  fixed (unbound k) e = same_self never
  fixed (test k t) e = tested_same (meaning base ns t) (meaning base ms t) (fixed t e)
  fixed (complement t) e = outside_same (events_of (base Universe)) (meaning base ns t) (meaning base ms t) (fixed t e)
  fixed (ended k p t) e = postfixed_same (events_of (base Universe)) p (meaning base ns t) (meaning base ms t) (fixed t e)
  fixed (joined k i l r) e =
      let h = empty_parts (denied first many true l) (denied first many true r) e in
      infixed_same i (meaning base ns l) (meaning base ms l) (meaning base ns r) (meaning base ms r) (fixed l h.0) (fixed r h.1)

  -- an operand that may be denied
  operand : (b : Bool) (t : Term) → (denied first many false t ≡ [] → Below (meaning base ns t) (meaning base ms t)) → denied first many b t ≡ [] → Below (meaning base ns t) (meaning base ms t) × (b ≡ true → Below (meaning base ms t) (meaning base ns t))
  operand true t h e = (same_below (meaning base ns t) (meaning base ms t) (fixed t e), λ _. same_above (meaning base ns t) (meaning base ms t) (fixed t e))
  operand false t h e = (h e, λ d. let z : ◌≡◌ {A = ℕ} 0 1 = cc in absurd (omega arith))

  -- a term that denies no name of the group rises
  pub rising : (t : Term) → denied first many false t ≡ [] → Below (meaning base ns t) (meaning base ms t)
  unfolding denied meaning
  rising (given g) e = below_self (base g)
  rising (bound k i) e = ⊎_elim (up.within i) (λ h. same_below (slice_index_or ns i never) (slice_index_or ms i never) (up.beyond i h)) (cases_Bool (of_group first many i))
  rising (unbound k) e = below_self never
  rising (test k t) e = tested_below (meaning base ns t) (meaning base ms t) (rising t e)
  rising (complement t) e = outside_below (events_of (base Universe)) (meaning base ns t) (meaning base ms t) (same_above (meaning base ns t) (meaning base ms t) (fixed t e))
  rising (ended k p t) e = postfixed_below (events_of (base Universe)) p (meaning base ns t) (meaning base ms t) (rising t e)
  rising (joined k i l r) e =
      let h = empty_parts (denied first many false l) (denied first many (denies_right i) r) e in
      let o = operand (denies_right i) r (rising r) h.1 in
      infixed_below i (meaning base ns l) (meaning base ms l) (meaning base ns r) (meaning base ms r) (rising l h.0) o.0 o.1

-- of each term of a group
pub group_at : (first many : ℕ) (bs : List Binding) → group_denied first many bs ≡ [] → (j : ℕ) (b : Binding) → At bs j b → denied first many false b.term ≡ []
unfolding group_denied
group_at first many [] e j b h = absurd h
group_at first many (x ∷ bs) e zero b h = subst (λ y. denied first many false y.term ≡ []) (sym h) (empty_parts (denied first many false x.term) (group_denied first many bs) e).0
group_at first many (x ∷ bs) e (suc j) b h = group_at first many bs (empty_parts (denied first many false x.term) (group_denied first many bs) e).1 j b h

-- the names of a group, as many as its bindings
pub length_names : (R : ℕ → Pairs) (k : ℕ) (bs : List Binding) → length (as_meanings R k bs) ≡ length bs
unfolding as_meanings
length_names R k [] = refl
length_names R k (b ∷ bs) = ap suc (length_names R (k + 1) bs)

-- names that rise
as_below : (R S : ℕ → Pairs) → ((j : ℕ) → Inside (R j) (S j)) → (k : ℕ) (bs : List Binding) (j : ℕ) → Below (slice_index_or (as_meanings R k bs) j never) (slice_index_or (as_meanings S k bs) j never)
unfolding as_meanings
as_below R S up k [] j = below_self never
as_below R S up k (b ∷ bs) zero = up k
as_below R S up k (b ∷ bs) (suc j) = as_below R S up (k + 1) bs j

-- behind the same meanings
behind_below : (ks xs ys : List Meaning) → ((j : ℕ) → Below (slice_index_or xs j never) (slice_index_or ys j never)) → (i : ℕ) → Below (slice_index_or (ks ++ xs) i never) (slice_index_or (ks ++ ys) i never)
behind_below [] xs ys h i = h i
behind_below (k ∷ ks) xs ys h zero = below_self k
behind_below (k ∷ ks) xs ys h (suc i) = behind_below ks xs ys h i

pub behind_same : (ks xs ys : List Meaning) → ((j : ℕ) → Same (slice_index_or xs j never) (slice_index_or ys j never)) → (i : ℕ) → Same (slice_index_or (ks ++ xs) i never) (slice_index_or (ks ++ ys) i never)
behind_same [] xs ys h i = h i
behind_same (k ∷ ks) xs ys h zero = same_self k
behind_same (k ∷ ks) xs ys h (suc i) = behind_same ks xs ys h i

-- among the same meanings
among_same : (ks xs ys : List Meaning) (i : ℕ) → i < length ks → Same (slice_index_or (ks ++ xs) i never) (slice_index_or (ks ++ ys) i never)
among_same [] xs ys i l = absurd (omega arith)
among_same (k ∷ ks) xs ys zero l = same_self k
among_same (k ∷ ks) xs ys (suc i) l = among_same ks xs ys i (omega arith)

-- past all the names of a group
past_names : (s : System) (R : ℕ → Pairs) (i : ℕ) → length s.known + length s.bindings ≤ i → slice_index_or (names s R) i never ≡ never
past_names s R i l =
    past_at (names s R) i
    (omega (arith, length-append (before s) (as_meanings R 0 s.bindings), length-map s.known value_meaning, length_names R 0 s.bindings))

-- relations that rise, as the names of a group
pub names_rise : (s : System) (R S : ℕ → Pairs) → ((j : ℕ) → Inside (R j) (S j)) → Rises (length s.known) (length s.bindings) (names s R) (names s S)
names_rise s R S up =
    record {
      within = λ i h. behind_below (before s) (as_meanings R 0 s.bindings) (as_meanings S 0 s.bindings) (as_below R S up 0 s.bindings) i;
      beyond = λ i h.
          ⊎_elim
          (λ e. among_same (before s) (as_meanings R 0 s.bindings) (as_meanings S 0 s.bindings) i (omega (arith, leb-false (length s.known) i e, length-map s.known value_meaning)))
          (λ e.
          let l = ltb-false i (length s.known + length s.bindings) e in
          path_same (past_names s R i l ∙ sym (past_names s S i l)))
          (and_cases (nat_le (length s.known) i) (nat_lt i (length s.known + length s.bindings)) h);
    }

-- the equations of a group that denies no name give more where its names mean more
pub body_inside : (s : System) → Positive s → (R S : ℕ → Pairs) → ((j : ℕ) → Inside (R j) (S j)) → (j : ℕ) → Inside (Body s R j) (Body s S j)
body_inside s pos R S up j a b m =
    let t = m.0.term in (
      m.0,
      m.1,
      pairs_below (meaning (base_meaning s.base) (names s R) t) (meaning (base_meaning s.base) (names s S) t)
          (rising (base_meaning s.base) (length s.known) (length s.bindings) (names s R) (names s S) (names_rise s R S up) t (group_at (length s.known) (length s.bindings) s.bindings pos j m.0 m.1))
          a b m.2,
    )
