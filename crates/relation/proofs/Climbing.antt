-- A climb on its way. Assumes nothing.
use Rattle.std.proofs.Common.{◌≡◌}
use mathlib.Core.Path.{subst⁻¹}
use Rattle.relation.specs.Climbs.{Rounds, none, again, Climbed}

-- a value that rounds from the least one have reached, within every solution
pub record Climbing {S : Type 0} (Begins Steps Below Solves Along : S → S → Type 0) (problem x : S) : Type 0 where
  pub start : S
  pub least : Begins problem start
  pub reached : Rounds Steps start x
  pub along : Along problem x
  pub within : (z : S) → Solves problem z → Below x z

module _ {S : Type 0} {Begins Steps Below Solves Along : S → S → Type 0} {problem : S} where
  -- at the least value
  pub climbing_none : {x : S} → ((x : S) → Begins problem x → Along problem x) → ((x z : S) → Begins problem x → Solves problem z → Below x z) → Begins problem x → Climbing Begins Steps Below Solves Along problem x
  climbing_none {x} starts least b =
      record { start = x; least = b; reached = none; along = starts x b; within = λ z s. least x z b s }

  -- after one more round
  pub climbing_more : {x y : S} → ((x y : S) → Along problem x → Steps x y → Along problem y) → ((x y z : S) → Along problem x → Steps x y → Solves problem z → Below x z → Below y z) → Climbing Begins Steps Below Solves Along problem x → Steps x y → Climbing Begins Steps Below Solves Along problem y
  climbing_more {x} {y} onward within c s =
      record { start = c.start; least = c.least; reached = again c.reached s; along = onward x y c.along s; within = λ z t. within x y z c.along s t (c.within z t) }

  -- where the step leaves the value unchanged
  pub climbing_done : {x y : S} → ((x : S) → Along problem x → Steps x x → Solves problem x) → Climbing Begins Steps Below Solves Along problem x → Steps x y → x ≡ y → Climbed Begins Steps Below Solves Along problem x
  climbing_done {x} solved c s e =
      let f = subst⁻¹ (Steps x) e s in
      record { fixed = f; start = c.start; least = c.least; reached = c.reached; along = c.along; solution = solved x c.along f; within = c.within }
