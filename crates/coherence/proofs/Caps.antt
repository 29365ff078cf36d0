-- Factorials as far as the code has them. Assumes nothing.
use Rattle.std.proofs.Common.{◌≡◌, ℕ, zero, suc, ◌*◌, ◌/◌, ◌%◌, ◌<◌, ◌≤◌, min, Bool, not, eqb, [], ◌∷◌, get_or, sym, refl, ap, ◌∙◌, subst, ⊎_elim, le_of_suc-le-suc, mod-eq_of_lt, eq-or-lt_of_le, arith}
use native.Mathlib.Nat.{div-eq_of_lt}
use Rattle.std.proofs.lemmas.Bool.{cases_lt, cases_eq, false≢true}
use Rattle.std.proofs.lemmas.Bool.Decides.{Decides-eqb, Decides-not, Decides-below_or}
use Rattle.std.proofs.lemmas.Nat.{mul-le}
use Rattle.run.specs.Tests.{any_below}
use Rattle.coherence.specs.Perms.{factorial}
use Rattle.coherence.specs.Laying.{capped}
use Rattle.coherence.proofs.Perms.{factorial_next}

-- a higher number has no lower factorial
pub factorial_le : (m n : ℕ) → m ≤ n → factorial m ≤ factorial n
factorial_le m zero le = let e : m ≡ 0 = omega arith in subst (λ k. factorial m ≤ factorial k) e (omega arith)
factorial_le m (suc n) le =
    ⊎_elim (λ e. subst (λ k. factorial m ≤ factorial k) e (omega arith)) (λ lt. let before = factorial_le m n (le_of_suc-le-suc lt) in omega (arith, factorial_next n)) (eq-or-lt_of_le le)

-- the table
in_table : (n : ℕ) → n ≤ 9 → get_or (1 ∷ 1 ∷ 2 ∷ 6 ∷ 24 ∷ 120 ∷ 720 ∷ 5040 ∷ 40320 ∷ 362880 ∷ []) n 0 ≡ factorial n
unfolding factorial any_below
in_table n le =
    let table : ℕ → ℕ = λ k. get_or (1 ∷ 1 ∷ 2 ∷ 6 ∷ 24 ∷ 120 ∷ 720 ∷ 5040 ∷ 40320 ∷ 362880 ∷ []) k 0 in
    let wrong : ℕ → Bool = λ k. not (eqb (table k) (factorial k)) in
    let found = Decides-below_or wrong (λ k. table k ≡ factorial k → ⊥) (any_below wrong) (λ k. Decides-not _ (Decides-eqb (table k) (factorial k))) refl (λ _. refl) 10 in
    ⊎_elim (λ e. e) (λ ne. absurd (false≢true (found.1 (n, omega arith, ne)))) (cases_eq (table n) (factorial n))

nine : factorial 9 ≡ 362880
unfolding factorial
nine = refl

pub table_right : (n k : ℕ) → k ≡ min n 9 → get_or (1 ∷ 1 ∷ 2 ∷ 6 ∷ 24 ∷ 120 ∷ 720 ∷ 5040 ∷ 40320 ∷ 362880 ∷ []) k 0 ≡ capped (factorial n)
table_right n k e =
    in_table k (omega arith)
    ∙ ⊎_elim
    (λ over. let here : k ≡ 9 = omega arith in let most = factorial_le 9 n (omega arith) in ap factorial here ∙ omega (arith, nine))
    (λ within. let here : k ≡ n = omega arith in let most = factorial_le n 9 (omega arith) in ap factorial here ∙ omega (arith, nine))
    (cases_lt 9 n)

-- division by a factorial is division by what the code has, below the cap
pub capped_div : (k f : ℕ) → k < 362880 → k / capped f ≡ k / f
capped_div k f lt =
    ⊎_elim (λ over. div-eq_of_lt {n = k} {m = capped f} (omega arith) ∙ sym (div-eq_of_lt {n = k} {m = f} (omega arith))) (λ within. ap (λ d. k / d) (omega arith)) (cases_lt 362880 f)

pub capped_mod : (k f : ℕ) → k < 362880 → k % capped f ≡ k % f
capped_mod k f lt =
    ⊎_elim (λ over. mod-eq_of_lt {n = k} {m = capped f} (omega arith) ∙ sym (mod-eq_of_lt {n = k} {m = f} (omega arith))) (λ within. ap (λ d. k % d) (omega arith)) (cases_lt 362880 f)

-- a product that is not followed above its cap
pub capped_product : (t w : ℕ) → 0 < t → 0 < w → min (min t 5041 * capped w) 5041 ≡ min (t * w) 5041
capped_product t w pos pos' =
    ⊎_elim
    (λ over. let here = mul-le 5041 1 (min t 5041) (capped w) (omega arith) (omega arith) in let there = mul-le 5041 1 t w (omega arith) (omega arith) in omega (arith, here, there))
    (λ within. ⊎_elim
    (λ over. let here = mul-le 1 5041 (min t 5041) (capped w) (omega arith) (omega arith) in let there = mul-le 1 5041 t w (omega arith) (omega arith) in omega (arith, here, there))
    (λ small. let e : min t 5041 ≡ t = omega arith in let f : capped w ≡ w = omega arith in ap (λ n. min n 5041) (ap (λ n. n * capped w) e ∙ ap (λ n. t * n) f))
    (cases_lt 362880 w))
    (cases_lt 5041 t)
