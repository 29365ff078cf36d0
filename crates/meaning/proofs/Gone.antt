-- Statements gone through one by one, and what is known behind them. Assumes nothing.
use Rattle.std.proofs.Common.{◌≡◌, ℕ, zero, suc, ◌+◌, ◌<◌, ◌≤◌, List, [], ◌∷◌, ◌++◌, map, length, get_or, take, sym, refl, ap, ◌∙◌, subst, arith}
use mathlib.Core.Path.{subst⁻¹}
use Rattle.std.proofs.lemmas.List.{take_all}
use Rattle.finite.specs.Lists.{At}
use Rattle.relation.specs.declared.value.Value.{Value}
use Rattle.relation.specs.Values.{Meaning}
use Rattle.term.specs.Statements.{Statement}
use Rattle.term.specs.Recursion.{binds, statement_denied, all_denied, many_bindings}
use Rattle.given.specs.declared.base.Base as given_base
use Rattle.given.specs.Bases.{base_meaning}
use Rattle.meaning.specs.Meanings.{Base}
use Rattle.meaning.specs.Groups.{known_after, bindings_mean}
use Rattle.meaning.specs.Tables.{value_meaning, AllMean}
use Rattle.meaning.specs.Knowns.{Added, Known}
use Rattle.meaning.specs.Rising.{empty_parts}
use Rattle.meaning.proofs.Placed.{at_map}
use Rattle.meaning.proofs.Knowing.{mean_none, mean_same, mean_as, after_same, added_length}

-- what is read at a place stands there in the mapped list
pub at_read : {A B : Type 0} (f : A → B) (xs : List A) (i : ℕ) (x : A) → i < length xs → x ≡ get_or xs i x → At (map f xs) i (f x)
at_read f xs i x l e = subst⁻¹ (λ y. At (map f xs) i (f y)) e (at_map f xs i x l)

take_suc_at : {A : Type 0} (xs : List A) (i : ℕ) (x : A) → At xs i x → take (suc i) xs ≡ take i xs ++ x ∷ []
take_suc_at [] i x h = absurd h
take_suc_at (y ∷ ys) zero x h = ap (λ z. z ∷ []) (sym h)
take_suc_at (y ∷ ys) (suc i) x h = ap (λ zs. y ∷ zs) (take_suc_at ys i x h)

-- one more of a list
pub take_at : {A : Type 0} (xs : List A) (i : ℕ) (x : A) → At xs i x → take (i + 1) xs ≡ take i xs ++ x ∷ []
take_at xs i x h = ap (λ n. take n xs) (let z : i + 1 ≡ suc i = omega arith in z) ∙ take_suc_at xs i x h

-- what is known behind one more statement
pub bindings_push : (base : Base) (known : List Meaning) (ss : List Statement) (s : Statement) → bindings_mean base known (ss ++ s ∷ []) ≡ known_after base (bindings_mean base known ss) s
unfolding bindings_mean
bindings_push base known [] s = refl
bindings_push base known (x ∷ ss) s = bindings_push base (known_after base known x) ss s

many_push : (ss : List Statement) (s : Statement) → many_bindings (ss ++ s ∷ []) ≡ many_bindings ss + binds s
unfolding many_bindings
many_push [] s = let z : binds s + 0 ≡ 0 + binds s = omega arith in z
many_push (x ∷ ss) s = let e = many_push ss s in let z : binds x + many_bindings (ss ++ s ∷ []) ≡ binds x + many_bindings ss + binds s = omega arith in z

-- the bindings before a statement, and its own, are some of all
many_at : (ss : List Statement) (i : ℕ) (s : Statement) → At ss i s → many_bindings (take i ss) + binds s ≤ many_bindings ss
unfolding many_bindings
many_at [] i s h = absurd h
many_at (x ∷ ss) zero s h = omega (arith, ap binds h)
many_at (x ∷ ss) (suc i) s h = omega (arith, many_at ss i s h)

-- nothing is denied in any statement
denied_at : (n : ℕ) (ss : List Statement) (i : ℕ) (s : Statement) → At ss i s → all_denied n ss ≡ [] → statement_denied (n + many_bindings (take i ss)) s ≡ []
unfolding all_denied many_bindings
denied_at n [] i s h e = absurd h
denied_at n (x ∷ ss) zero s h e =
    subst (λ m. statement_denied m s ≡ []) (let z : n ≡ n + 0 = omega arith in z)
    (subst⁻¹ (λ t. statement_denied n t ≡ []) h (empty_parts (statement_denied n x) (all_denied (n + binds x) ss) e).0)
denied_at n (x ∷ ss) (suc i) s h e =
    subst (λ m. statement_denied m s ≡ []) (let z : n + binds x + many_bindings (take i ss) ≡ n + (binds x + many_bindings (take i ss)) = omega arith in z)
    (denied_at (n + binds x) ss i s h (empty_parts (statement_denied n x) (all_denied (n + binds x) ss) e).1)

-- so many statements are gone through
abbrev pub Going : given_base.Base → List Statement → ℕ → List Value → Type 0
Going base ss i values = all_denied 0 ss ≡ [] → many_bindings ss ≤ 64 → (length values ≡ many_bindings (take i ss)) × AllMean values (bindings_mean (base_meaning base) [] (take i ss))

pub going_none : (base : given_base.Base) (ss : List Statement) {values : List Value} → values ≡ [] → Going base ss 0 values
unfolding many_bindings bindings_mean
going_none base ss e = subst⁻¹ (Going base ss 0) e (λ d b. (refl, mean_none))

pub going_more : (base : given_base.Base) (ss : List Statement) (i : ℕ) (values new : List Value) (s : Statement) → At ss i s → Going base ss i values → Added base s values new → Going base ss (i + 1) new
going_more base ss i values new s at g added d b =
    let p = g d b in
    let K = map value_meaning values in
    let J = bindings_mean (base_meaning base) [] (take i ss) in
    let fine : statement_denied (length values) s ≡ [] = subst (λ m. statement_denied m s ≡ []) (let z : 0 + many_bindings (take i ss) ≡ length values = omega (arith, p.0) in z) (denied_at 0 ss i s at d) in
    let known = added fine (omega (arith, p.0, many_at ss i s at, b)) in
    let list = take_at ss i s at in (
      added_length base s values new known ∙ ap (λ m. m + binds s) p.0 ∙ sym (many_push (take i ss) s) ∙ ap many_bindings (sym list),
      subst⁻¹ (λ ks. AllMean new ks) (ap (bindings_mean (base_meaning base) []) list ∙ bindings_push (base_meaning base) [] (take i ss) s)
          (mean_as new (known_after (base_meaning base) K s) (known_after (base_meaning base) J s) known (after_same (base_meaning base) K J (mean_same values J p.1) s)),
    )

pub going_done : (base : given_base.Base) (ss : List Statement) (i : ℕ) (values : List Value) → length ss ≤ i → Going base ss i values → Known base ss values
going_done base ss i values l g d b = subst (λ xs. AllMean values (bindings_mean (base_meaning base) [] xs)) (take_all i ss l) (g d b).1
