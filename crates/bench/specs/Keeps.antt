-- What every bench keeps at every moment. Assumes nothing.
use Rattle.std.specs.Prelude.{◌≡◌, ℕ, true}
use Rattle.run.specs.declared.event.Event.{Event}
use Rattle.run.specs.declared.rule.Rule.TheVariants.{Ranges, Steps, Initials, Sources}
use Rattle.run.specs.Events.{Write}
use Rattle.run.specs.Rules.{Kept, OnlySettled}
use Rattle.run.specs.Runs.{Run, Stands}

-- what every bench keeps at every moment
pub record Orderly (run : Run) : Type 0 where
  -- the first four rules
  pub ranges : Kept Ranges run
  pub steps : Kept Steps run
  pub initials : Kept Initials run
  pub sources : Kept Sources run
  -- only writes are settled, at most one in a location
  pub settlings : (n : ℕ) (e : Event) → Stands run n e → e.settled ≡ true → Write e × OnlySettled run n e
