-- What the climb to the least solution of a let rec group begins and ends at. Assumes nothing.
use Rattle.std.specs.Prelude.{◌≡◌, ℕ, ◌<◌, ◌≤◌, length}
use Rattle.std.proofs.Common.{◌∙◌, subst, arith}
use Rattle.finite.specs.Lists.{At}
use Rattle.relation.specs.Relations.{Pairs, Inside}
use Rattle.relation.specs.Climbs.{Rounds, none, again, Climbed}
use Rattle.given.specs.Bases.{base_meaning}
use Rattle.term.specs.Statements.{Binding}
use Rattle.meaning.specs.declared.solving.Solving.{Solving}
use Rattle.meaning.specs.Operators.{pairs_of}
use Rattle.meaning.specs.Meanings.{meaning}
use Rattle.meaning.specs.Groups.{Candidates, told, Solves}
use Rattle.meaning.specs.Systems.{System, Table, before, names, Body, Positive, slots, Least}
use Rattle.meaning.specs.Solvings.{SolvingBegins, SolvingSteps, SolvingBelow, SolvingSolves, SolvingAlong}
use Rattle.meaning.specs.Solved.{begins_empty, step_inside}
use Rattle.meaning.proofs.Placed.{candidates, candidates_are, at_below, at_only}
use Rattle.meaning.proofs.Knowing.{same_all_self, solves_same}

-- what holds at the start, and of every next value, holds of every value reached
pub rounds_keep : {S : Type 0} {Steps : S → S → Type 0} {start x : S} (P : S → Type 0) → P start → ((x y : S) → P x → Steps x y → P y) → Rounds Steps start x → P x
rounds_keep P p next none = p
rounds_keep P p next (again r s) = next _ _ (rounds_keep P p next r) s

-- what the equation of a name gives is what its term means
body_at : (s : System) (R : ℕ → Pairs) (j : ℕ) (x : Binding) → At s.bindings j x → (a b : ℕ) → Body s R j a b → pairs_of (meaning (base_meaning s.base) (names s R) x.term) a b
body_at s R j x h a b m = subst (λ y. pairs_of (meaning (base_meaning s.base) (names s R) y.term) a b) (at_only s.bindings j m.0 x m.1 h) m.2

module _ {E : Type 0} (system : E → System) where
  -- the end of the climb is the least solution
  module _ (problem end : Solving E) (c : Climbed SolvingBegins (SolvingSteps system) (SolvingBelow system) (SolvingSolves system) (SolvingAlong system) problem end) where
    ends_solution : Positive (system problem.equations) → length (system problem.equations).bindings ≤ 64 → Solves (base_meaning (system problem.equations).base) (before (system problem.equations)) (system problem.equations).bindings (Table end.found)
    ends_solution pos le j x h a b =
        let s = system problem.equations in
        let k : j < slots s = let z = at_below s.bindings j x h in omega arith in
        (λ r. body_at s (Table end.found) j x h a b (c.along.given pos j k a b r), λ m. c.solution j k a b (x, h, m))

    ends_within : Positive (system problem.equations) → (test : Candidates) → Solves (base_meaning (system problem.equations).base) (before (system problem.equations)) (system problem.equations).bindings (told test) → (j : ℕ) → Inside (Table end.found j) (told test j)
    ends_within pos test solves =
        (rounds_keep (λ x. (x.equations ≡ problem.equations) × ((i : ℕ) → Inside (Table x.found i) (told test i)))
        (c.least.equations, λ i a b r. absurd (begins_empty problem c.start c.least i a b r))
        (λ x y p s. (s.equations ∙ p.0, step_inside system problem x y pos p.0 s (told test) (λ i k a b m. (solves i m.0 m.1 a b).1 m.2) p.1))
        c.reached).1

    pub solving_done : Least (system problem.equations) end.found
    solving_done =
        record {
          long = c.along.long;
          solution = ends_solution;
          within = ends_within;
          means = λ pos le j a b r test solves. ends_within pos test solves j a b r;
          covers = λ pos le j a b h.
              let s = system problem.equations in
              let found = end.found in
              (candidates_are found j a b).1
              (h (candidates found) (solves_same (base_meaning s.base) (before s) (before s) s.bindings (Table found) (told (candidates found)) (same_all_self (before s)) (candidates_are found) (ends_solution pos le)));
        }
