-- Masks: sets of numbers below 32 as bits, and rows of them. Assumes nothing.
use Rattle.std.specs.Prelude.{◌≡◌, ℕ, zero, suc, ◌/◌, ◌%◌, ◌^◌, ◌<◌, Bool, true, cond, ◌↔◌, List, [], ◌∷◌, length, ◌==◌, bit_or, bit_xor, slice_index, slice_set}
use Rattle.coherence.specs.Coherence.{Order}

-- the number is in the set that the mask shows
unfoldable pub has : ℕ → ℕ → Bool
has mask n = mask / 2 ^ n % 2 == 1

-- rows of masks show an order: row a has bit b exactly when a is before b
pub record Shown (rows : List ℕ) (co : Order) : Type 0 where
  pub long : length rows ≡ 32
  pub bits : (a b : ℕ) → (co a b ≡ true) ↔ ((a < 32) × (has (slice_index rows a) b ≡ true))

-- the set with one number more
abbrev pub more : ℕ → ℕ → ℕ
more mask n = bit_or mask (2 ^ n)

-- the set without a number that is in it
abbrev pub less : ℕ → ℕ → ℕ
less mask n = bit_xor mask (2 ^ n)

-- the numbers below a bound that pass a test
unfoldable pub mask_of : (ℕ → Bool) → ℕ → ℕ
mask_of p zero = 0
mask_of p (suc n) = cond (p n) (more (mask_of p n) n) (mask_of p n)

-- what is left of a set when the numbers of a line are taken out
unfoldable pub left_of : ℕ → List ℕ → ℕ
left_of rest [] = rest
left_of rest (x ∷ xs) = left_of (less rest x) xs

-- rows with a line laid into them: the row of each number has those that are left after it
unfoldable pub laid : List ℕ → ℕ → List ℕ → List ℕ
laid rows rest [] = rows
laid rows rest (x ∷ xs) = laid (slice_set rows x (less rest x)) (less rest x) xs
