-- The table of byte classes: its rule, proved once over the whole table. Assumes nothing.
use Rattle.std.proofs.Common.{◌≡◌, ℕ, zero, suc, ◌+◌, ◌<◌, Bool, true, ◌&&◌, eqb, List, [], ◌∷◌, length, get_or, subst, arith}
use Rattle.std.proofs.lemmas.Bool.{and_parts, eqb-true}
use Rattle.token.specs.declared.class.Class.{Class}
use Rattle.token.specs.Classes.{class_number, class}

-- every entry is the class of its place, counted from a place on
abbrev pub right : ℕ → List Class → Bool
right at [] = true
right at (x ∷ xs) = eqb (class_number x) (class at) && right (suc at) xs

-- so each entry is
right_from : (xs : List Class) (at k : ℕ) (d : Class) → right at xs ≡ true → k < length xs → class_number (get_or xs k d) ≡ class (at + k)
right_from [] at k d h l = absurd (omega arith)
right_from (x ∷ xs) at zero d h l =
    let z : at ≡ at + 0 = omega arith in
    subst (λ (m : ℕ). class_number x ≡ class m) z (eqb-true (class_number x) (class at) (and_parts _ _ h).0)
right_from (x ∷ xs) at (suc k) d h l =
    let z : suc at + k ≡ at + suc k = omega arith in
    subst (λ (m : ℕ). class_number (get_or xs k d) ≡ class m) z (right_from xs (suc at) k d (and_parts (eqb (class_number x) (class at)) _ h).1 (omega arith))

pub right_at : (xs : List Class) (k : ℕ) (d : Class) → right 0 xs ≡ true → k < length xs → class_number (get_or xs k d) ≡ class k
right_at xs k d h l =
    let z : 0 + k ≡ k = omega arith in
    subst (λ (m : ℕ). class_number (get_or xs k d) ≡ class m) z (right_from xs 0 k d h l)
