-- How many bindings and checks a text that is read has at most. Assumes nothing.
use Rattle.std.specs.Prelude.{ℕ, ◌≤◌, List, length}
use Rattle.term.specs.Statements.{Statement, claims}
use Rattle.term.specs.Recursion.{many_bindings}
use Rattle.cat.specs.Readings.{Reads}

-- at most 64 bindings and 16 checks
pub record Bounded (ss : List Statement) : Type 0 where
  pub bindings : many_bindings ss ≤ 64
  pub checks : length (claims ss) ≤ 16

-- every text that is read is so
abbrev pub ReadsBounded : Type 0
ReadsBounded = (text : List ℕ) (ss : List Statement) → Reads text ss → Bounded ss
