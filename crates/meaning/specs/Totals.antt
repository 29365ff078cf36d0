-- The sum of all rows of a table. Assumes nothing.
use Rattle.std.specs.Prelude.{◌≡◌, ℕ, zero, suc, ◌*◌, ◌^◌, ◌<◌, ◌≤◌, List, [], ◌∷◌, length}
use Rattle.std.proofs.Common.{arith}
use Rattle.relation.specs.declared.relation.Relation.{Relation}
use Rattle.relation.specs.Climbs.{total}
use Rattle.meaning.specs.Systems.{rows_at}
use Rattle.meaning.specs.Solvings.{totals}

-- sums that fit have a sum that fits
pub totals_fit : (xs : List Relation) → ((i : ℕ) → i < length xs → total (rows_at xs i) ≤ 32 * 2 ^ 32) → totals xs ≤ length xs * (32 * 2 ^ 32)
unfolding totals
totals_fit [] f = omega arith
totals_fit (x ∷ xs) f = omega (arith, f 0 (omega arith), totals_fit xs (λ i l. f (suc i) (omega arith)))

-- larger sums have a larger sum
pub totals_rise : (xs ys : List Relation) → length xs ≡ length ys → ((i : ℕ) → total (rows_at xs i) ≤ total (rows_at ys i)) → totals xs ≤ totals ys
unfolding totals
totals_rise [] [] e h = omega arith
totals_rise [] (y ∷ ys) e h = absurd (omega arith)
totals_rise (x ∷ xs) [] e h = absurd (omega arith)
totals_rise (x ∷ xs) (y ∷ ys) e h = omega (arith, h 0, totals_rise xs ys (omega arith) (λ i. h (suc i)))

-- and the same sum only where each is the same
pub totals_same : (xs ys : List Relation) → length xs ≡ length ys → ((i : ℕ) → total (rows_at xs i) ≤ total (rows_at ys i)) → totals ys ≤ totals xs → (i : ℕ) → total (rows_at ys i) ≤ total (rows_at xs i)
unfolding totals
totals_same [] [] e h k i = omega arith
totals_same [] (y ∷ ys) e h k i = absurd (omega arith)
totals_same (x ∷ xs) [] e h k i = absurd (omega arith)
totals_same (x ∷ xs) (y ∷ ys) e h k zero = omega (arith, h 0, totals_rise xs ys (omega arith) (λ j. h (suc j)))
totals_same (x ∷ xs) (y ∷ ys) e h k (suc i) = totals_same xs ys (omega arith) (λ j. h (suc j)) (omega (arith, h 0)) i
