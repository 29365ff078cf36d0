-- How many things have a property. Assumes nothing.
use Rattle.std.specs.Prelude.{◌≡◌, ℕ, zero, suc, ◌+◌, ◌<◌, Bool, true, false, cond, List, length, slice_index_or}
use Rattle.finite.specs.Lists.{In, Apart}

-- Exactly n things have the property P: some list without repeats has just those things, and its length is n.
pub record Counts {A : Type 0} (P : A → Type 0) (n : ℕ) : Type 0 where
  pub items : List A
  pub apart : Apart items
  pub only : (x : A) → In x items → P x
  pub all : (x : A) → P x → In x items
  pub long : length items ≡ n

-- The thing passes the test.
abbrev pub Passes : {A : Type 0} → (A → Bool) → A → Type 0
Passes p x = p x ≡ true

-- The number is below the bound, and passes the test.
abbrev pub Below : (ℕ → Bool) → ℕ → ℕ → Type 0
Below p n k = (k < n) × Passes p k

-- How many numbers below the bound pass the test, computed.
unfoldable pub count_below : (ℕ → Bool) → ℕ → ℕ
count_below p zero = zero
count_below p (suc n) = cond (p n) (count_below p n + 1) (count_below p n)

-- Whether the flag at a place is set; past the end of the list none is.
abbrev pub flag_at : List Bool → ℕ → Bool
flag_at flags k = slice_index_or flags k false

-- Exactly n of the flags are set.
abbrev pub SetFlags : List Bool → ℕ → Type 0
SetFlags flags n = Counts (Below (flag_at flags) (length flags)) n
