-- The laws of the climb to the least solution of a let rec group. Assumes nothing.
use Rattle.std.specs.Prelude.{◌≡◌, ℕ, ◌*◌, ◌^◌, ◌<◌, ◌≤◌, List, [], length, replicate, slice_index}
use Rattle.std.proofs.Common.{sym, ◌∙◌, ap, subst, inl, inr, ⊎_elim, arith}
use Rattle.std.proofs.Math.Path.{subst⁻¹}
use Rattle.std.proofs.lemmas.List.{ext_get_or, get_or_past, get_or-replicate, length-replicate}
use Rattle.std.proofs.lemmas.Bool.{cases_lt}
use Rattle.relation.specs.declared.relation.Relation.{Relation}
use Rattle.relation.specs.Relations.{Pairs, Never, Inside}
use Rattle.relation.specs.Masks.{Related, Shows}
use Rattle.relation.specs.Climbs.{total}
use Rattle.relation.specs.Alike.{same_rows}
use Rattle.relation.specs.Bits.{in_nothing}
use Rattle.relation.specs.Closings.{rows_rise}
use Rattle.relation.specs.Totals.{total_fits, total_rises}
use Rattle.meaning.specs.declared.solving.Solving.{Solving}
use Rattle.meaning.specs.Systems.{System, rows_at, Table, Body, Positive, slots}
use Rattle.meaning.specs.Solvings.{SolvingBegins, SolvingSteps, SolvingBelow, SolvingSolves, SolvingAlong, SolvingAlike, solving_height, totals}
use Rattle.meaning.specs.Rising.{body_inside}
use Rattle.meaning.specs.Totals.{totals_fit, totals_same}

-- no rows relate nothing
pub no_rows : {a b : ℕ} → Related [] a b → ⊥
no_rows {a} {b} r = in_nothing b r.there

-- past its end a table has nothing
pub table_past : (xs : List Relation) (i : ℕ) → length xs ≤ i → {a b : ℕ} → Table xs i a b → ⊥
table_past xs i l {a} {b} r = no_rows {a = a} {b = b} (subst (λ x. Related x.rows a b) (get_or_past xs i (record { rows = [] }) l) r)

module _ {E : Type 0} where
  -- values with the same parts are the same
  pub same_solving : {x y : Solving E} → x.equations ≡ y.equations → x.found ≡ y.found → x ≡ y
  same_solving p q = λ i. record { equations = p i; found = q i }

  -- a table of nothing
  pub solving_bottom : (problem x : Solving E) (r : Relation) → x.equations ≡ problem.equations → x.found ≡ replicate 64 r → Shows r.rows Never → SolvingBegins problem x
  solving_bottom problem x r p q s =
      record {
        equations = p;
        long = ap length q ∙ length-replicate 64 r;
        nothing = λ i l. subst⁻¹ (λ xs. Shows (rows_at xs i) Never) q (subst⁻¹ (λ y. Shows y.rows Never) (get_or-replicate 64 i r (record { rows = [] }) l) s);
      }

  -- nothing is found at the start
  pub begins_empty : (problem x : Solving E) → SolvingBegins problem x → (i a b : ℕ) → Table x.found i a b → ⊥
  begins_empty problem x s i a b r =
      ⊎_elim (λ k. ((s.nothing i k).same a b).0 r) (λ k. table_past x.found i (omega (arith, s.long)) {a = a} {b = b} r) (cases_lt i 64)

module _ {E : Type 0} (system : E → System) where
  -- the start is on the way
  pub solving_start : (problem x : Solving E) → SolvingBegins problem x → SolvingAlong system problem x
  solving_start problem x s =
      record {
        equations = s.equations;
        long = s.long;
        rows = λ i k. (s.nothing i k).long;
        fits = λ i k. (s.nothing i k).fits;
        rest = λ i k. begins_empty problem x s i;
        given = λ pos i k a b r. absurd (begins_empty problem x s i a b r);
      }

  -- a step loses nothing
  pub solving_rises : (x y : Solving E) → SolvingSteps system x y → (i : ℕ) → Inside (Table x.found i) (Table y.found i)
  solving_rises x y s i a b r =
      ⊎_elim
      (λ k. ((s.found i k).same a b).1 (inl r))
      (λ k. subst⁻¹ (λ rows. Related rows a b) (s.rest i k) r)
      (cases_lt i (slots (system x.equations)))

  -- a step stays on the way
  pub solving_onward : (problem x y : Solving E) → SolvingAlong system problem x → SolvingSteps system x y → SolvingAlong system problem y
  solving_onward problem x y l s =
      let at = λ (e : E). slots (system e) in
      let same : at x.equations ≡ at problem.equations = ap at l.equations in
      record {
        equations = s.equations ∙ l.equations;
        long = s.long;
        rows = λ i k. ⊎_elim (λ m. (s.found i m).long) (λ m. ap length (s.rest i m) ∙ l.rows i k) (cases_lt i (at x.equations));
        fits = λ i k a. ⊎_elim (λ m. (s.found i m).fits a) (λ m. subst⁻¹ (λ rows. slice_index rows a < 2 ^ 32) (s.rest i m) (l.fits i k a)) (cases_lt i (at x.equations));
        rest = λ i k a b r. l.rest i k a b (subst (λ rows. Related rows a b) (s.rest i (subst⁻¹ (λ n. n ≤ i) same k)) r);
        given = λ pos i k a b r.
            body_inside (system problem.equations) pos (Table x.found) (Table y.found) (solving_rises x y s) i a b
            (⊎_elim (l.given pos i k a b) (subst (λ e. Body (system e) (Table x.found) i a b) l.equations) (((s.found i (subst⁻¹ (λ n. i < n) same k)).same a b).0 r));
      }

  -- values that have found the same are the same
  pub solving_matched : (problem x y : Solving E) → SolvingAlong system problem x → SolvingAlong system problem y → SolvingAlike system x y → x ≡ y
  solving_matched problem x y l k h =
      same_solving (l.equations ∙ sym k.equations)
      (ext_get_or (record { rows = [] }) x.found y.found (l.long ∙ sym k.long)
      (λ i under.
      let n : i < 64 = omega (arith, l.long) in
      ap (λ rows. record { rows = rows })
      (same_rows _ _ (l.rows i n) (k.rows i n) (l.fits i n) (k.fits i n)
      (⊎_elim
      (λ m. h i (subst⁻¹ (λ e. i < slots (system e)) l.equations m))
      (λ m a b. (λ r. absurd (l.rest i m a b r), λ r. absurd (k.rest i m a b r)))
      (cases_lt i (slots (system problem.equations)))))))

  -- a step that finds something else leaves less to rise
  pub solving_falls : (problem x y : Solving E) → SolvingAlong system problem x → SolvingSteps system x y → (SolvingAlike system x y → ⊥) → solving_height y < solving_height x
  solving_falls problem x y l s other =
      let xs = x.found in
      let ys = y.found in
      let k = solving_onward problem x y l s in
      let long : length xs ≡ length ys = l.long ∙ sym s.long in
      let rises : (i : ℕ) (n : i < 64) → (total (rows_at xs i) ≤ total (rows_at ys i)) × (total (rows_at ys i) ≤ total (rows_at xs i) → rows_at xs i ≡ rows_at ys i) =
      λ i n.
      total_rises (rows_at xs i) (rows_at ys i) (l.rows i n ∙ sym (k.rows i n))
      (rows_rise (rows_at xs i) (rows_at ys i) (l.rows i n) (l.fits i n) (k.fits i n) (solving_rises x y s i)) in
      let up : (i : ℕ) → total (rows_at xs i) ≤ total (rows_at ys i) =
      λ i.
      ⊎_elim (λ n. (rises i n).0)
      (λ n. omega (arith, ap (λ r. total r.rows) (get_or_past xs i (record { rows = [] }) (omega (arith, l.long))), ap (λ r. total r.rows) (get_or_past ys i (record { rows = [] }) (omega (arith, s.long)))))
      (cases_lt i 64) in
      let less : totals ys ≤ totals xs → ⊥ =
      λ m. other
      (λ i n a b. let e = (rises i (omega arith)).1 (totals_same xs ys long up m i) in (subst (λ r. Related r a b) e, subst⁻¹ (λ r. Related r a b) e)) in
      let top : totals ys ≤ 64 * (32 * 2 ^ 32) =
      subst (λ n. totals ys ≤ n * (32 * 2 ^ 32)) s.long
      (totals_fit ys
      (λ i m.
      let n : i < 64 = omega (arith, s.long) in
      subst (λ m. total (rows_at ys i) ≤ m * 2 ^ 32) (k.rows i n) (total_fits (rows_at ys i) (k.fits i n)))) in
      ⊎_elim (λ rise. omega (arith, rise, top)) (λ down. absurd (less down)) (cases_lt (totals xs) (totals ys))

  -- the least value is within every solution
  pub solving_least : (problem x z : Solving E) → SolvingBegins problem x → SolvingSolves system problem z → SolvingBelow system x z
  solving_least problem x z s solves pos i a b r = absurd (begins_empty problem x s i a b r)

  -- a step stays within relations that the equations give nothing else of
  pub step_inside : (problem x y : Solving E) → Positive (system problem.equations) → x.equations ≡ problem.equations → SolvingSteps system x y → (R : ℕ → Pairs) → ((i : ℕ) → i < slots (system problem.equations) → Inside (Body (system problem.equations) R i) (R i)) → ((i : ℕ) → Inside (Table x.found i) (R i)) → (i : ℕ) → Inside (Table y.found i) (R i)
  step_inside problem x y pos e s R solves below i a b r =
      ⊎_elim
      (λ k.
      ⊎_elim (below i a b)
      (λ m.
      solves i (subst (λ w. i < slots (system w)) e k) a b
      (body_inside (system problem.equations) pos (Table x.found) R below i a b (subst (λ w. Body (system w) (Table x.found) i a b) e m)))
      (((s.found i k).same a b).0 r))
      (λ k. below i a b (subst (λ rows. Related rows a b) (s.rest i k) r))
      (cases_lt i (slots (system x.equations)))

  -- a step stays within every solution
  pub solving_within : (problem x y z : Solving E) → SolvingAlong system problem x → SolvingSteps system x y → SolvingSolves system problem z → SolvingBelow system x z → SolvingBelow system y z
  solving_within problem x y z l s solves below pos =
      let here = subst (λ e. Positive (system e)) s.equations pos in
      step_inside problem x y (subst (λ e. Positive (system e)) l.equations here) l.equations s (Table z.found) solves (below here)

  -- what the step leaves unchanged is a solution
  pub solving_solved : (problem x : Solving E) → SolvingAlong system problem x → SolvingSteps system x x → SolvingSolves system problem x
  solving_solved problem x l s i k a b m =
      ((s.found i (subst⁻¹ (λ e. i < slots (system e)) l.equations k)).same a b).1 (inr (subst⁻¹ (λ e. Body (system e) (Table x.found) i a b) l.equations m))
