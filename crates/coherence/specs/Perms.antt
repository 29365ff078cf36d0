-- Permutations of numbers: which lists are lined up from the same things, which comes before which, and how many there are. Assumes nothing.
use Rattle.std.specs.Prelude.{◌≡◌, ℕ, zero, suc, ◌+◌, ◌*◌, ◌/◌, ◌%◌, ◌<◌, Bool, true, cond, ◌⊎◌, List, [], ◌∷◌, length, nat_lt, slice_index}
use Rattle.finite.specs.Lists.{In, Apart}

-- 1 × 2 × … × n
unfoldable pub factorial : ℕ → ℕ
factorial zero = 1
factorial (suc n) = suc n * factorial n

-- the row has just the things with the property, each once
pub record LinesUp (P : ℕ → Type 0) (row : List ℕ) : Type 0 where
  pub apart : Apart row
  pub only : (x : ℕ) → In x row → P x
  pub all : (x : ℕ) → P x → In x row

-- compared from the left: the lower number at the first place where they differ
abbrev pub Before : List ℕ → List ℕ → Type 0
Before [] ys = ⊥
Before (x ∷ xs) [] = ⊥
Before (x ∷ xs) (y ∷ ys) = (x < y) ⊎ ((x ≡ y) × Before xs ys)

-- each item is before all that stand after it, by a relation given as data
abbrev pub Sorted : (ℕ → ℕ → Bool) → List ℕ → Type 0
Sorted co [] = Unit {0}
Sorted co (x ∷ xs) = ((y : ℕ) → In y xs → co x y ≡ true) × Sorted co xs

-- a list that rises
abbrev pub Rising : List ℕ → Type 0
Rising xs = Sorted nat_lt xs

-- how many items pass a test
unfoldable pub passing : (ℕ → Bool) → List ℕ → ℕ
passing t [] = 0
passing t (x ∷ xs) = cond (t x) (passing t xs + 1) (passing t xs)

-- how many items are lower than a number
abbrev pub lower : ℕ → List ℕ → ℕ
lower p xs = passing (λ x. nat_lt x p) xs

-- how many of the permutations of a row's items come before the row, computed
unfoldable pub rank : List ℕ → ℕ
rank [] = 0
rank (x ∷ xs) = lower x xs * factorial (length xs) + rank xs

-- a list without the item at a place
unfoldable pub removed : ℕ → List ℕ → List ℕ
removed i [] = []
removed zero (x ∷ xs) = xs
removed (suc i) (x ∷ xs) = x ∷ removed i xs

-- the k-th permutation of a rising list of f items, counted from 0
unfoldable pub nth : ℕ → List ℕ → ℕ → List ℕ
nth zero xs k = []
nth (suc f) xs k = slice_index xs (k / factorial f) ∷ nth f (removed (k / factorial f) xs) (k % factorial f)
