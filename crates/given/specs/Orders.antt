-- The data of a run under one order after another. Assumes nothing.
use Rattle.std.specs.Prelude.{ℕ, false, List}
use Rattle.run.specs.Runs.{Run}
use Rattle.coherence.specs.Coherence.{Order}
use Rattle.coherence.specs.Masks.{Shown}
use Rattle.given.specs.declared.base.Base.{Base}
use Rattle.given.specs.Bases.{BaseOf}

-- the order with no pair
abbrev pub no_order : Order
no_order a b = false

-- data of any run under any order become those of the run under the order that the rows show
abbrev pub Reordered : Base → List ℕ → Base → Type 0
Reordered base rows r = (run : Run) (before co : Order) → BaseOf run before base → Shown rows co → BaseOf run co r
