-- The rows of an order, computed location by location. Assumes nothing.
use Rattle.std.specs.Prelude.{ℕ, zero, suc, min, List, length, replicate, bit_or, slice_index}
use Rattle.run.specs.Runs.{Run}
use Rattle.coherence.specs.Lines.{First, Free, Last}
use Rattle.coherence.specs.Perms.{nth}
use Rattle.coherence.specs.Lines.{chosen, those, line}
use Rattle.coherence.specs.Digits.{row_by}
use Rattle.coherence.specs.Masks.{has, mask_of, laid}

-- a factorial as far as the code has them: from 9 on it is that of 9, above every number of 16 bits
abbrev pub capped : ℕ → ℕ
capped n = min n 362880

-- the writes of a location
abbrev pub writes_mask : Run → ℕ → ℕ
writes_mask run l = bit_or (bit_or (mask_of (chosen First run l) 32) (mask_of (chosen Free run l) 32)) (mask_of (chosen Last run l) 32)

-- the permutation of a mask's numbers by its digit
abbrev pub mask_row : ℕ → ℕ → List ℕ
mask_row mask digit = nth (length (those (has mask) 32)) (those (has mask) 32) digit

-- the rows of the locations below a bound, by their digits
unfoldable pub rows_at : Run → List ℕ → ℕ → List ℕ
rows_at run digits zero = replicate 32 0
rows_at run digits (suc l) = laid (rows_at run digits l) (writes_mask run l) (line run l (row_by run l (slice_index digits l)))
