-- The numbers of coherence orders. Assumes nothing.
use Rattle.std.specs.Prelude.{◌≡◌, ℕ, zero, suc, ◌+◌, ◌*◌, ◌<◌, List}
use Rattle.finite.specs.Counts.{Counts}
use Rattle.run.specs.Runs.{Run}
use Rattle.coherence.specs.Perms.{factorial, LinesUp, Before, Sorted}
use Rattle.coherence.specs.Coherence.{FreeOf, Order, Coherence}

-- the number that digits make, the first of them counting most, each with a radix of its own
unfoldable pub mixed : (ℕ → ℕ) → (ℕ → ℕ) → ℕ → ℕ
mixed radix digit zero = 0
mixed radix digit (suc l) = mixed radix digit l * radix l + digit l

-- the product of the first radices
unfoldable pub product : (ℕ → ℕ) → ℕ → ℕ
product radix zero = 1
product radix (suc l) = product radix l * radix l

-- how many free writes each of the sixteen locations has
abbrev pub Frees : Run → (ℕ → ℕ) → Type 0
Frees run free = (l : ℕ) → l < 16 → Counts (FreeOf run l) (free l)

-- the radix of a location: how many ways there are to line up its free writes
abbrev pub radices : (ℕ → ℕ) → ℕ → ℕ
radices free l = factorial (free l)

-- n is the product of the factorials
pub record Orders (run : Run) (n : ℕ) : Type 0 where
  pub free : ℕ → ℕ
  pub frees : Frees run free
  pub value : n ≡ product (radices free) 16

-- the row is the location's free writes as the order has them
pub record Row (run : Run) (co : Order) (l : ℕ) (row : List ℕ) : Type 0 where
  -- it has the free writes of the location, each once
  pub lines : LinesUp (FreeOf run l) row
  -- each is before those that stand after it
  pub sorted : Sorted co row

-- so many ways to line up the location's free writes come before the row
abbrev pub Digit : Run → ℕ → List ℕ → ℕ → Type 0
Digit run l row d = Counts (λ other. LinesUp (FreeOf run l) other × Before other row) d

-- n is the number of the order: the mixed-radix number of its rows' digits
pub record Number (run : Run) (co : Order) (n : ℕ) : Type 0 where
  -- how many free writes each location has
  pub free : ℕ → ℕ
  pub frees : Frees run free
  -- how the order lines them up
  pub row : ℕ → List ℕ
  pub rows : (l : ℕ) → l < 16 → Row run co l (row l)
  -- how many ways to line them up come before that
  pub digit : ℕ → ℕ
  pub digits : (l : ℕ) → l < 16 → Digit run l (row l) (digit l)
  -- the lowest location counts most, and the radix of f free writes is f factorial
  pub value : n ≡ mixed (radices free) digit 16

-- one order comes before another: at the first location, from the lowest, at which their rows differ, its row comes before
pub record Earlier (run : Run) (co other : Order) : Type 0 where
  pub location : ℕ
  pub within : location < 16
  -- at every lower location both have the same row
  pub alike : (l : ℕ) → l < location → (row : List ℕ) → Row run co l row → Row run other l row
  -- at this location the row of the one comes before the row of the other
  pub here : List ℕ
  pub there : List ℕ
  pub row_here : Row run co location here
  pub row_there : Row run other location there
  pub before : Before here there

-- the numbers below the product and the coherence orders pair off one to one, a lower number with an earlier order
pub record Paired (run : Run) (orders : ℕ) : Type 0 where
  -- each number has an order
  pub has_order : (n : ℕ) → n < orders → (co : Order) × Coherence run co × Number run co n
  -- and no other
  pub one_order : (n : ℕ) (co other : Order) → Coherence run co → Coherence run other → Number run co n → Number run other n → co ≡ other
  -- each order has a number
  pub has_number : (co : Order) → Coherence run co → (n : ℕ) × (n < orders) × Number run co n
  -- and no other
  pub one_number : (co : Order) (m n : ℕ) → Coherence run co → Number run co m → Number run co n → m ≡ n
  -- a lower number comes before a higher one
  pub earlier : (m n : ℕ) (co other : Order) → m < n → Coherence run co → Coherence run other → Number run co m → Number run other n → Earlier run co other
