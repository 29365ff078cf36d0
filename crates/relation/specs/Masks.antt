-- Which set a mask shows, and which relation 32 masks show. Assumes nothing.
use Rattle.std.specs.Prelude.{◌≡◌, ℕ, ◌/◌, ◌%◌, ◌^◌, ◌<◌, List, length, slice_index}
use Rattle.relation.specs.Sets.{Events, SameEvents}
use Rattle.relation.specs.Relations.{Pairs, SamePairs, Sequence, Path, Inside}

-- the bit of a mask at a place
abbrev pub bit : ℕ → ℕ → ℕ
bit mask n = mask / 2 ^ n % 2

-- the event is in the set of the mask
pub record Member (mask n : ℕ) : Type 0 where
  pub within : n < 32
  pub raised : bit mask n ≡ 1

-- the row of the first event has the second
pub record Related (rows : List ℕ) (a b : ℕ) : Type 0 where
  pub within : a < 32
  pub there : Member (slice_index rows a) b

-- the mask fits, and has exactly the events of the set
pub record Marks (mask : ℕ) (A : Events) : Type 0 where
  pub fits : mask < 2 ^ 32
  pub same : SameEvents (Member mask) A

-- there are 32 rows, each fits, and they have exactly the pairs of the relation
pub record Shows (rows : List ℕ) (R : Pairs) : Type 0 where
  pub long : length rows ≡ 32
  pub fits : (a : ℕ) → slice_index rows a < 2 ^ 32
  pub same : SamePairs (Related rows) R

-- the rows fit, and have the relation, its two steps in a row as one, and nothing that is no path of it
pub record Joined (R : Pairs) (rows : List ℕ) : Type 0 where
  pub long : length rows ≡ 32
  pub fits : (a : ℕ) → slice_index rows a < 2 ^ 32
  pub kept : Inside R (Related rows)
  pub joined : Inside (Sequence R R) (Related rows)
  pub paths : Inside (Related rows) (Path R)
