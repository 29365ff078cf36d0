-- What events lead to, and the closure of a relation, as problems of the climb. Assumes nothing.
use Rattle.std.specs.Prelude.{◌≡◌, ℕ, ◌-◌, ◌*◌, ◌^◌, ◌<◌, length, slice_index}
use Rattle.relation.specs.declared.reach.Reach.{Reach}
use Rattle.relation.specs.declared.closing.Closing.{Closing}
use Rattle.relation.specs.Sets.{Either, SameEvents}
use Rattle.relation.specs.Relations.{Union, Sequence, Path, Image, Inside, SamePairs}
use Rattle.relation.specs.Masks.{Member, Related, Marks, Shows, Joined}
use Rattle.relation.specs.Relations.{Never}
use Rattle.relation.specs.Climbs.{total}

-- the second value is of the problem of the first: the same relation, and the same events to start from
pub record SameReach (problem x : Reach) : Type 0 where
  pub relation : x.relation ≡ problem.relation
  pub from : x.from ≡ problem.from

-- nothing is reached yet
pub record ReachBegins (problem x : Reach) : Type 0 where
  pub problem_is : SameReach problem x
  pub nothing : x.reached ≡ 0

-- what is reached, and what is one step from there or from the start
pub record ReachSteps (x y : Reach) : Type 0 where
  pub problem_is : SameReach x y
  pub found : Marks y.reached (Either (Member x.reached) (Image (Either (Member x.from) (Member x.reached)) (Related x.relation.rows)))

-- every event that the first has reached, the second has
abbrev pub ReachBelow : Reach → Reach → Type 0
ReachBelow x y = (n : ℕ) → Member x.reached n → Member y.reached n

-- one step from the start or from what is reached leads to nothing else
abbrev pub ReachSolves : Reach → Reach → Type 0
ReachSolves problem z = (n : ℕ) → Image (Either (Member problem.from) (Member z.reached)) (Related problem.relation.rows) n → Member z.reached n

-- what is reached fits, and is led to
pub record ReachAlong (problem x : Reach) : Type 0 where
  pub problem_is : SameReach problem x
  pub fits : x.reached < 2 ^ 32
  pub led : (n : ℕ) → Member x.reached n → Image (Member problem.from) (Path (Related problem.relation.rows)) n

-- the same events are reached
abbrev pub ReachAlike : Reach → Reach → Type 0
ReachAlike x y = SameEvents (Member x.reached) (Member y.reached)

-- a mask with more events is a larger number
abbrev pub reach_height : Reach → ℕ
reach_height x = 2 ^ 32 - x.reached

-- no pair is reached yet
pub record ClosingBegins (problem x : Closing) : Type 0 where
  pub base : x.base ≡ problem.base
  pub nothing : Shows x.reached.rows Never

-- the relation and what is reached, joined with themselves
pub record ClosingSteps (x y : Closing) : Type 0 where
  pub base : y.base ≡ x.base
  pub joins : Joined (Union (Related x.base.rows) (Related x.reached.rows)) y.reached.rows

-- every pair that the first has reached, the second has
abbrev pub ClosingBelow : Closing → Closing → Type 0
ClosingBelow x y = Inside (Related x.reached.rows) (Related y.reached.rows)

-- it has the relation, and two of its steps in a row are one
pub record ClosingSolves (problem z : Closing) : Type 0 where
  pub base : Inside (Related problem.base.rows) (Related z.reached.rows)
  pub joined : Inside (Sequence (Related z.reached.rows) (Related z.reached.rows)) (Related z.reached.rows)

-- what is reached fits, and has paths alone
pub record ClosingAlong (problem x : Closing) : Type 0 where
  pub base : x.base ≡ problem.base
  pub long : length x.reached.rows ≡ 32
  pub fits : (a : ℕ) → slice_index x.reached.rows a < 2 ^ 32
  pub paths : Inside (Related x.reached.rows) (Path (Related problem.base.rows))

-- the same pairs are reached
abbrev pub ClosingAlike : Closing → Closing → Type 0
ClosingAlike x y = SamePairs (Related x.reached.rows) (Related y.reached.rows)

-- a relation with more pairs has a larger sum of its rows
abbrev pub closing_height : Closing → ℕ
closing_height x = 32 * 2 ^ 32 - total x.reached.rows
