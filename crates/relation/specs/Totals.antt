-- The sum of the rows of a relation. Assumes nothing.
use Rattle.std.specs.Prelude.{◌≡◌, ℕ, suc, ◌*◌, ◌^◌, ◌<◌, ◌≤◌, List, [], ◌∷◌, length, slice_index, refl}
use Rattle.std.proofs.Common.{arith}
use Rattle.relation.specs.Climbs.{total}

-- rows that fit have a sum that fits
pub total_fits : (xs : List ℕ) → ((a : ℕ) → slice_index xs a < 2 ^ 32) → total xs ≤ length xs * 2 ^ 32
unfolding total
total_fits [] f = omega arith
total_fits (x ∷ xs) f = omega (arith, f 0, total_fits xs (λ a. f (suc a)))

-- larger rows have a larger sum, and the same sum only where they are the same
pub total_rises : (xs ys : List ℕ) → length xs ≡ length ys → ((a : ℕ) → slice_index xs a ≤ slice_index ys a) → (total xs ≤ total ys) × (total ys ≤ total xs → xs ≡ ys)
unfolding total
total_rises [] [] e h = (omega arith, λ _. refl)
total_rises [] (y ∷ ys) e h = absurd (omega arith)
total_rises (x ∷ xs) [] e h = absurd (omega arith)
total_rises (x ∷ xs) (y ∷ ys) e h =
    let rest = total_rises xs ys (omega arith) (λ a. h (suc a)) in
    let head = h 0 in (
      omega (arith, rest.0),
      λ k.
          let first : x ≡ y = omega (arith, rest.0) in
          let others : xs ≡ ys = rest.1 (omega (arith, rest.0)) in
          cc,
    )
