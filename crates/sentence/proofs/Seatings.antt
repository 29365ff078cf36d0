-- The places of leaves in an expression that is put together. Assumes nothing.
use Rattle.std.proofs.Common.{◌≡◌, ℕ, suc, ◌+◌, Bool, true, false, cond, List, [], ◌∷◌, ◌++◌, length, sym, refl, ap, ◌∙◌, subst, append-nil, add-zero, add-one, arith, length-append}
use Rattle.sentence.specs.declared.sort.Sort.{Sort}
use Rattle.sentence.specs.declared.sort.Sort.TheVariants.{Tilde}
use Rattle.sentence.specs.Trees.{Leaf, name, Bracket, round, square, Post, plus, Infix, bar, Tree, atom, inside, tilde, ended, joined, open_sort, close_sort, post_sort, infix_sort, spell}
use Rattle.sentence.specs.Roles.{role}
use Rattle.sentence.specs.Seats.{leaf_role, places, Seated}

-- a sort that is no leaf
places_skip : (i : ℕ) (s : Sort) (ts : List Sort) → leaf_role (role s) ≡ false → places i (s ∷ ts) ≡ places (suc i) ts
unfolding places
places_skip i s ts e = ap (λ b. cond b (i ∷ places (suc i) ts) (places (suc i) ts)) e

-- two parts
places_append : (i : ℕ) (a b : List Sort) → places i (a ++ b) ≡ places i a ++ places (i + length a) b
unfolding places
places_append i [] b = ap (λ n. places n b) (sym (add-zero i))
places_append i (s ∷ a) b =
    let far : suc i + length a ≡ i + suc (length a) = omega arith in
    go (leaf_role (role s)) (places_append (suc i) a b ∙ ap (λ n. places (suc i) a ++ places n b) far)
  where
    go : (c : Bool) → places (suc i) (a ++ b) ≡ places (suc i) a ++ places (i + suc (length a)) b →
        cond c (i ∷ places (suc i) (a ++ b)) (places (suc i) (a ++ b)) ≡ cond c (i ∷ places (suc i) a) (places (suc i) a) ++ places (i + suc (length a)) b
    go true ih = ap (λ x. i ∷ x) ih
    go false ih = ih

-- one more sort that is no leaf
places_last : (i : ℕ) (a : List Sort) (s : Sort) → leaf_role (role s) ≡ false → places i (a ++ (s ∷ [])) ≡ places i a
unfolding places
places_last i a s e = places_append i a (s ∷ []) ∙ ap (λ x. places i a ++ x) (places_skip (i + length a) s [] e) ∙ append-nil (places i a)

open_no_leaf : (b : Bracket) → leaf_role (role (open_sort b)) ≡ false
open_no_leaf round = refl
open_no_leaf square = refl

close_no_leaf : (b : Bracket) → leaf_role (role (close_sort b)) ≡ false
close_no_leaf round = refl
close_no_leaf square = refl

post_no_leaf : (s : Post) → leaf_role (role (post_sort s)) ≡ false
post_no_leaf plus = refl
post_no_leaf s = refl

infix_no_leaf : (i : Infix) → leaf_role (role (infix_sort i)) ≡ false
infix_no_leaf bar = refl
infix_no_leaf i = refl

pub seated_leaf : (at : ℕ) (l : Leaf) → Seated at (atom l) (at ∷ []) (at + 1)
unfolding places
seated_leaf at name = record { spans = refl; seats = refl }
seated_leaf at l = record { spans = refl; seats = refl }

pub seated_inside : (at : ℕ) (b : Bracket) (t u : Tree) (ks ls : List ℕ) (next : ℕ) → Seated (at + 1) t ks next → u ≡ inside b t → ls ≡ ks → Seated at u ls (next + 1)
seated_inside at b t u ks ls next h is same =
    subst (λ x. Seated at x ls (next + 1)) (sym is)
    (record {
      spans = omega (arith, h.spans, length-append (spell t) (close_sort b ∷ []));
      seats = same ∙ h.seats ∙ ap (λ n. places n (spell t)) (add-one at) ∙ sym (places_last (suc at) (spell t) (close_sort b) (close_no_leaf b)) ∙ sym (places_skip at (open_sort b) (spell t ++ (close_sort b ∷ [])) (open_no_leaf b));
    })

pub seated_tilde : (at : ℕ) (t u : Tree) (ks ls : List ℕ) (next : ℕ) → Seated (at + 1) t ks next → u ≡ tilde t → ls ≡ ks → Seated at u ls next
seated_tilde at t u ks ls next h is same =
    subst (λ x. Seated at x ls next) (sym is)
    (record { spans = omega (arith, h.spans); seats = same ∙ h.seats ∙ ap (λ n. places n (spell t)) (add-one at) ∙ sym (places_skip at Tilde (spell t) refl) })

pub seated_ended : (at : ℕ) (t u : Tree) (s : Post) (ks ls : List ℕ) (next : ℕ) → Seated at t ks next → u ≡ ended t s → ls ≡ ks → Seated at u ls (next + 1)
seated_ended at t u s ks ls next h is same =
    subst (λ x. Seated at x ls (next + 1)) (sym is)
    (record { spans = omega (arith, h.spans, length-append (spell t) (post_sort s ∷ [])); seats = same ∙ h.seats ∙ sym (places_last at (spell t) (post_sort s) (post_no_leaf s)) })

pub seated_joined : (at : ℕ) (i : Infix) (t r u : Tree) (ks js ls : List ℕ) (next end : ℕ) → Seated at t ks next → Seated (next + 1) r js end → u ≡ joined i t r → ls ≡ ks ++ js → Seated at u ls end
seated_joined at i t r u ks js ls next end h g is same =
    let from : next + 1 ≡ suc (at + length (spell t)) = omega (arith, h.spans) in
    subst (λ x. Seated at x ls end) (sym is)
    (record {
      spans = omega (arith, h.spans, g.spans, length-append (spell t) (infix_sort i ∷ spell r));
      seats =
          same
          ∙ ap (λ x. x ++ js) h.seats
          ∙ ap (λ x. places at (spell t) ++ x) (g.seats ∙ ap (λ n. places n (spell r)) from ∙ sym (places_skip (at + length (spell t)) (infix_sort i) (spell r) (infix_no_leaf i)))
          ∙ sym (places_append at (spell t) (infix_sort i ∷ spell r));
    })
