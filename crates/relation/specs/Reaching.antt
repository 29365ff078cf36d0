-- The laws of the climb to what events lead to. Assumes nothing.
use Rattle.std.specs.Prelude.{◌≡◌, ℕ, ◌<◌, ◌≤◌, List, refl}
use Rattle.std.proofs.Common.{sym, ◌∙◌, subst, inl, inr, ⊎_elim, arith}
use Rattle.std.proofs.Math.Path.{subst⁻¹}
use Rattle.relation.specs.declared.reach.Reach.{Reach}
use Rattle.relation.specs.Sets.{Either, Single}
use Rattle.relation.specs.Relations.{Image, Path, one, more}
use Rattle.relation.specs.Masks.{Member, Related, Marks}
use Rattle.relation.specs.Climbs.{Climbed}
use Rattle.relation.specs.Problems.{SameReach, ReachBegins, ReachSteps, ReachBelow, ReachSolves, ReachAlong, ReachAlike, reach_height}
use Rattle.relation.specs.Bits.{same_members, within_le}
use Rattle.relation.specs.Marked.{marks_as, nothing_marks}
use Rattle.relation.specs.Steps.{path_join}

-- values with the same parts are the same
pub same_reach : {x y : Reach} → x.relation ≡ y.relation → x.from ≡ y.from → x.reached ≡ y.reached → x ≡ y
same_reach p q r = λ i. record { relation = p i; from = q i; reached = r i }

-- a step stays on the way
pub reach_onward : (problem x y : Reach) → ReachAlong problem x → ReachSteps x y → ReachAlong problem y
reach_onward problem x y l s =
    let e = l.problem_is.relation in
    record {
      problem_is = record { relation = s.problem_is.relation ∙ e; from = s.problem_is.from ∙ l.problem_is.from };
      fits = s.found.fits;
      led = λ n m.
          ⊎_elim (l.led n)
          (λ h.
          let r : Related problem.relation.rows h.0 n = subst (λ q. Related q.rows h.0 n) e h.2 in
          ⊎_elim
          (λ f. (h.0, subst (λ q. Member q h.0) l.problem_is.from f, one r))
          (λ f. let k = l.led h.0 f in (k.0, k.1, path_join k.2 (one r)))
          h.1)
          ((s.found.same n).0 m);
    }

-- values that have reached the same are the same
pub reach_matched : (problem x y : Reach) → ReachAlong problem x → ReachAlong problem y → ReachAlike x y → x ≡ y
reach_matched problem x y l k h =
    same_reach (l.problem_is.relation ∙ sym k.problem_is.relation) (l.problem_is.from ∙ sym k.problem_is.from) (same_members l.fits k.fits h)

-- a step that reaches something else leaves less to rise
pub reach_falls : (problem x y : Reach) → ReachAlong problem x → ReachSteps x y → (ReachAlike x y → ⊥) → reach_height y < reach_height x
reach_falls problem x y l s other =
    let up : x.reached ≤ y.reached = within_le l.fits s.found.fits (λ n m. (s.found.same n).1 (inl m)) in
    let differs : x.reached ≡ y.reached → ⊥ = λ e. other (λ n. (subst (λ k. Member k n) e, subst⁻¹ (λ k. Member k n) e)) in
    omega (arith, l.fits, s.found.fits)

-- a step stays within every solution
pub reach_within : (problem x y z : Reach) → ReachAlong problem x → ReachSteps x y → ReachSolves problem z → ReachBelow x z → ReachBelow y z
reach_within problem x y z l s solves below n m =
    ⊎_elim (below n)
    (λ h.
    solves n
    (h.0, ⊎_elim (λ f. inl (subst (λ q. Member q h.0) l.problem_is.from f)) (λ f. inr (below h.0 f)) h.1, subst (λ q. Related q.rows h.0 n) l.problem_is.relation h.2))
    ((s.found.same n).0 m)

-- one step of the code
pub reach_step : (x y : Reach) {a b : ℕ} → SameReach x y → Marks a (Either (Member x.from) (Member x.reached)) → Marks b (Image (Member a) (Related x.relation.rows)) → Marks y.reached (Either (Member x.reached) (Member b)) → ReachSteps x y
reach_step x y p s i u =
    record {
      problem_is = p;
      found = marks_as _ _ u (λ n. (⊎_elim inl (λ h. let k = (i.same n).0 h in inr (k.0, (s.same k.0).0 k.1, k.2)), ⊎_elim inl (λ h. inr ((i.same n).1 (h.0, (s.same h.0).1 h.1, h.2)))));
    }

-- a solution has all that a path leads to
pub solution_has : (problem z : Reach) → ReachSolves problem z → {a b : ℕ} → Either (Member problem.from) (Member z.reached) a → Path (Related problem.relation.rows) a b → Member z.reached b
solution_has problem z solves f (one r) = solves _ (_, f, r)
solution_has problem z solves f (more r p) = solution_has problem z solves (inr (solves _ (_, f, r))) p

-- the end of the climb is what the events lead to
pub reach_done : (problem end : Reach) → Climbed ReachBegins ReachSteps ReachBelow ReachSolves ReachAlong problem end → Marks end.reached (Image (Member problem.from) (Path (Related problem.relation.rows)))
reach_done problem end c =
    record { fits = c.along.fits; same = λ n. (c.along.led n, λ h. solution_has problem end c.solution (inl h.1) h.2) }

-- what a set of one event leads to
pub leads_single : (rows : List ℕ) (event : ℕ) {x r : ℕ} → Marks x (Single event) → Marks r (Image (Member x) (Path (Related rows))) → Marks r (Path (Related rows) event)
leads_single rows event s m =
    marks_as _ _ m (λ n. (λ h. subst (λ a. Path (Related rows) a n) ((s.same h.0).0 h.1) h.2, λ p. (event, (s.same event).1 refl, p)))

-- an event beyond the last leads nowhere
pub leads_nowhere : (rows : List ℕ) (event : ℕ) → 32 ≤ event → Marks 0 (Path (Related rows) event)
leads_nowhere rows event l = marks_as _ _ nothing_marks (λ n. (λ e. absurd e, λ p. starts_below l p))
  where
    starts_below : {a b : ℕ} → 32 ≤ a → Path (Related rows) a b → ⊥
    starts_below k (one r) = omega (arith, r.within)
    starts_below k (more r p) = omega (arith, r.within)
