-- The order of a number, computed: the number's digits, and the permutation of each. Assumes nothing.
use Rattle.std.specs.Prelude.{ℕ, zero, suc, ◌/◌, ◌%◌, List, [], ◌∷◌, ◌++◌, length, slice_index}
use Rattle.run.specs.Runs.{Run}
use Rattle.coherence.specs.Lines.{Free}
use Rattle.coherence.specs.Perms.{factorial, nth}
use Rattle.coherence.specs.Coherence.{Order}
use Rattle.coherence.specs.Lines.{group, line, order_of}

-- the digits of a number, the first counting most
unfoldable pub digits_of : (ℕ → ℕ) → ℕ → ℕ → List ℕ
digits_of radix n zero = []
digits_of radix n (suc m) = digits_of radix (n / radix m) m ++ (n % radix m ∷ [])

-- what is left of the number above its digits
unfoldable pub excess : (ℕ → ℕ) → ℕ → ℕ → ℕ
excess radix n zero = n
excess radix n (suc m) = excess radix (n / radix m) m

-- how many ways there are to line up a location's free writes
abbrev pub ways : Run → ℕ → ℕ
ways run l = factorial (length (group Free run l))

-- the row of a location by its digit
abbrev pub row_by : Run → ℕ → ℕ → List ℕ
row_by run l k = nth (length (group Free run l)) (group Free run l) k

-- the digit of a location
abbrev pub digit_at : Run → ℕ → ℕ → ℕ
digit_at run n l = slice_index (digits_of (ways run) n 16) l

-- the line of a location
abbrev pub line_at : Run → ℕ → ℕ → List ℕ
line_at run n l = line run l (row_by run l (digit_at run n l))

-- the order of a number
abbrev pub order_at : Run → ℕ → Order
order_at run n = order_of (line_at run n)
