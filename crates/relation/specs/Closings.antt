-- The laws of the climb to a closure. Assumes nothing.
use Rattle.std.specs.Prelude.{◌≡◌, ℕ, ◌*◌, ◌^◌, ◌<◌, ◌≤◌, List, length, slice_index}
use Rattle.std.proofs.Common.{sym, ◌∙◌, subst, inr, ⊎_elim, arith}
use Rattle.std.proofs.Math.Path.{subst⁻¹}
use Rattle.std.proofs.lemmas.Bool.{cases_lt}
use Rattle.std.proofs.lemmas.List.{get_or_past}
use Rattle.relation.specs.declared.closing.Closing.{Closing}
use Rattle.relation.specs.Relations.{Pairs, Union, Path, one, more, Inside}
use Rattle.relation.specs.Masks.{Related, Shows, Joined}
use Rattle.relation.specs.Climbs.{Climbed, total}
use Rattle.relation.specs.Problems.{ClosingBegins, ClosingSteps, ClosingBelow, ClosingSolves, ClosingAlong, ClosingAlike, closing_height}
use Rattle.relation.specs.Bits.{within_le}
use Rattle.relation.specs.Alike.{same_rows}
use Rattle.relation.specs.Steps.{path_join, path_inside, joined_as}
use Rattle.relation.specs.Totals.{total_fits, total_rises}

-- values with the same parts are the same
pub same_closing : {x y : Closing} → x.base ≡ y.base → x.reached.rows ≡ y.reached.rows → x ≡ y
same_closing p q = λ i. record { base = p i; reached = record { rows = q i } }

-- paths of paths are paths
pub path_flat : {R S : Pairs} → Inside R (Path S) → {a b : ℕ} → Path R a b → Path S a b
path_flat h (one r) = h _ _ r
path_flat h (more r p) = path_join (h _ _ r) (path_flat h p)

-- a step stays on the way
pub closing_onward : (problem x y : Closing) → ClosingAlong problem x → ClosingSteps x y → ClosingAlong problem y
closing_onward problem x y l s =
    record {
      base = s.base ∙ l.base;
      long = s.joins.long;
      fits = s.joins.fits;
      paths = λ a b r.
          path_flat
          (λ u v. ⊎_elim (λ q. one (subst (λ w. Related w.rows u v) l.base q)) (l.paths u v))
          (s.joins.paths a b r);
    }

-- values that have reached the same are the same
pub closing_matched : (problem x y : Closing) → ClosingAlong problem x → ClosingAlong problem y → ClosingAlike x y → x ≡ y
closing_matched problem x y l k h = same_closing (l.base ∙ sym k.base) (same_rows _ _ l.long k.long l.fits k.fits h)

-- rows within rows are no larger numbers
pub rows_rise : (xs ys : List ℕ) → length xs ≡ 32 → ((a : ℕ) → slice_index xs a < 2 ^ 32) → ((a : ℕ) → slice_index ys a < 2 ^ 32) → Inside (Related xs) (Related ys) → (a : ℕ) → slice_index xs a ≤ slice_index ys a
rows_rise xs ys long f g h a =
    ⊎_elim
    (λ l. within_le (f a) (g a) (λ b m. (h a b (record { within = l; there = m })).there))
    (λ l. omega (arith, get_or_past xs a 0 (omega arith)))
    (cases_lt a 32)

-- a step that reaches something else leaves less to rise
pub closing_falls : (problem x y : Closing) → ClosingAlong problem x → ClosingSteps x y → (ClosingAlike x y → ⊥) → closing_height y < closing_height x
closing_falls problem x y l s other =
    let xs = x.reached.rows in
    let ys = y.reached.rows in
    let rise = total_rises xs ys (l.long ∙ sym s.joins.long) (rows_rise xs ys l.long l.fits s.joins.fits (λ a b r. s.joins.kept a b (inr r))) in
    let top : total ys ≤ 32 * 2 ^ 32 = subst (λ n. total ys ≤ n * 2 ^ 32) s.joins.long (total_fits ys s.joins.fits) in
    let less : total ys ≤ total xs → ⊥ = λ k. let e = rise.1 k in other (λ a b. (subst (λ r. Related r a b) e, subst⁻¹ (λ r. Related r a b) e)) in
    ⊎_elim (λ up. omega (arith, up, top)) (λ down. absurd (less down)) (cases_lt (total xs) (total ys))

-- a step stays within every solution
pub closing_within : (problem x y z : Closing) → ClosingAlong problem x → ClosingSteps x y → ClosingSolves problem z → ClosingBelow x z → ClosingBelow y z
closing_within problem x y z l s solves below a b r =
    path_inside
    (λ u v. ⊎_elim (λ q. solves.base u v (subst (λ w. Related w.rows u v) l.base q)) (below u v))
    solves.joined
    (s.joins.paths a b r)

-- one step of the code
pub closing_step : (x y : Closing) {middle : List ℕ} → y.base ≡ x.base → Shows middle (Union (Related x.base.rows) (Related x.reached.rows)) → Joined (Related middle) y.reached.rows → ClosingSteps x y
closing_step x y e s j = record { base = e; joins = joined_as _ s j }

-- the end of the climb has exactly the paths
pub closing_done : (problem end : Closing) → Climbed ClosingBegins ClosingSteps ClosingBelow ClosingSolves ClosingAlong problem end → Shows end.reached.rows (Path (Related problem.base.rows))
closing_done problem end c =
    record {
      long = c.along.long;
      fits = c.along.fits;
      same = λ a b. (c.along.paths a b, λ p. path_inside c.solution.base c.solution.joined p);
    }
