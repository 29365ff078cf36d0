-- Each call of a written record is a step from the run halfway to the next. Assumes nothing.
use Rattle.std.proofs.Common.{◌≡◌, ℕ, zero, suc, ◌<◌, ◌≤◌, Bool, true, false, Some, None, Option, sym, refl, ap, ◌∙◌, ⊎_elim, arith}
use Rattle.std.specs.Option.{option_map}
use Rattle.std.proofs.lemmas.Bool.{cases_lt}
use Rattle.run.specs.declared.event.Event.{Event}
use Rattle.bench.specs.declared.action.Action.TheVariants.{Tie, Settle}
use Rattle.run.specs.Runs.{Run, Stands}
use Rattle.bench.specs.Keeps.{Orderly}
use Rattle.bench.specs.Steps.{sourced, final}
use Rattle.bench.proofs.Stays.{Open}
use Rattle.bench.proofs.Marks.{Alike, alike_flip, write_along}
use Rattle.record.specs.Writing.{Stage, Entries, Ties, Settlings, entering, tying, settling, call_of, calls_below}
use Rattle.record.proofs.Leads.{Leads, Makes, leads_also}
use Rattle.record.proofs.Halfway.{bare, tied, halfway, halfway_below, halfway_from, halfway_part, unsettled_part, next_put, next_same}

module _ (run : Run) (orderly : Orderly run) where
  -- an event may be entered: nothing stands there yet, and those that do break no rule with it
  enters : (n : ℕ) (e : Event) → Stands run n e → Open (halfway Entries run n) (entering n e)
  enters n e s =
      let r = orderly.ranges n e s in
      record {
        below = s.0;
        free = halfway_from Entries run n n (omega arith);
        ranged = record { kinds = r.kinds; origin = r.origin; threads = r.threads; located = r.located; placeless = r.placeless };
        steps = λ threaded m f t th st. let p = halfway_part Entries run n m f t in orderly.steps n e s threaded m p.0 p.1 (sym p.2.0.thread ∙ th) (sym p.2.0.step ∙ st);
        initials = λ initial m f t twin place. let p = halfway_part Entries run n m f t in orderly.initials n e s initial m p.0 p.1 (sym p.2.0.kind ∙ twin) (sym p.2.0.location ∙ place);
      }

  -- every event stands while the ties are read
  stands_tying : (n m : ℕ) (e : Event) → Stands run m e → (f : Event) × Stands (halfway Ties run n) m f × Alike f e
  stands_tying n m e s =
      ⊎_elim
      (λ h. (tied e, (s.0, halfway_below Ties run n m h ∙ ap (option_map tied) s.1), (unsettled_part e e.source).0))
      (λ h. (bare e, (s.0, halfway_from Ties run n m h ∙ ap (option_map bare) s.1), (unsettled_part e None).0))
      (cases_lt m n)

  -- an event with a source may be tied to it
  ties : (n w : ℕ) (e : Event) → Stands run n e → e.source ≡ Some w → Open (halfway Ties run n) (Tie n w)
  ties n w e s from =
      let h = orderly.sources n e s w from in
      let g = stands_tying n w h.1.write h.1.stands in
      record {
        read = bare e;
        write = g.0;
        read_stands = (s.0, halfway_from Ties run n n (omega arith) ∙ ap (option_map bare) s.1);
        write_stands = g.1;
        reads = h.0;
        writes = write_along g.0 h.1.write g.2 h.1.writes;
        place = sym (g.2.location ∙ h.1.place);
        same = sym (g.2.value ∙ h.1.same);
      }

  -- a settled event may be settled: no other write of its location is
  settles : (n : ℕ) (e : Event) → Stands run n e → e.settled ≡ true → Open (halfway Settlings run n) (Settle n)
  settles n e s up =
      let h = orderly.settlings n e s up in
      record {
        write = tied e;
        stands = (s.0, halfway_from Settlings run n n (omega arith) ∙ ap (option_map tied) s.1);
        writes = h.0;
        only = λ m f t writes final place.
            let p = halfway_part Settlings run n m f t in
            h.1 m p.0 p.1 (write_along p.0 f (alike_flip f p.0 p.2.0) writes) (p.2.1 final) (sym p.2.0.location ∙ place);
      }

  -- the call of a stage leads on from a number to the next, and where there is none the run stays
  makes_entry : (n : ℕ) → n < 32 → (o : Option Event) → run n ≡ o → Makes (halfway Entries run n) (call_of Entries n o) (halfway Entries run (suc n))
  makes_entry n l None h = next_same Entries run n (rw h refl)
  makes_entry n l (Some e) h = (enters n e (l, h), next_put Entries run n (Some (bare e)) (rw h refl))

  makes_tie : (n : ℕ) → n < 32 → (o : Option Event) → run n ≡ o → Makes (halfway Ties run n) (call_of Ties n o) (halfway Ties run (suc n))
  makes_tie n l None h = next_same Ties run n (rw h refl)
  makes_tie n l (Some e) h = go e.source refl
    where
      go : (s : Option ℕ) → e.source ≡ s → Makes (halfway Ties run n) (tying n s) (halfway Ties run (suc n))
      go None f = next_same Ties run n (rw (h, f) refl)
      go (Some w) f = (ties n w e (l, h) f, next_put Ties run n (option_map (sourced w) (halfway Ties run n n)) (ap (option_map (sourced w)) (halfway_from Ties run n n (omega arith)) ∙ rw (h, f) refl))

  makes_settling : (n : ℕ) → n < 32 → (o : Option Event) → run n ≡ o → Makes (halfway Settlings run n) (call_of Settlings n o) (halfway Settlings run (suc n))
  makes_settling n l None h = next_same Settlings run n (rw h refl)
  makes_settling n l (Some e) h = go e.settled refl
    where
      go : (b : Bool) → e.settled ≡ b → Makes (halfway Settlings run n) (settling n b) (halfway Settlings run (suc n))
      go false f = next_same Settlings run n (rw (h, ← f) refl)
      go true f = (settles n e (l, h) f, next_put Settlings run n (option_map final (halfway Settlings run n n)) (ap (option_map final) (halfway_from Settlings run n n (omega arith)) ∙ rw (h, ← f) refl))

  -- and so in every stage
  makes : (stage : Stage) (n : ℕ) → n < 32 → Makes (halfway stage run n) (call_of stage n (run n)) (halfway stage run (suc n))
  makes Entries n l = makes_entry n l (run n) refl
  makes Ties n l = makes_tie n l (run n) refl
  makes Settlings n l = makes_settling n l (run n) refl

  -- the calls of a stage below a number lead there
  pub stage_leads : (stage : Stage) (n : ℕ) → n ≤ 32 → Leads (halfway stage run 0) (calls_below stage run n) (halfway stage run n)
  unfolding calls_below
  stage_leads stage zero h = record { accepted = tt; leads = refl }
  stage_leads stage (suc n) h =
      leads_also (halfway stage run 0) (halfway stage run n) (halfway stage run (suc n)) (calls_below stage run n) (call_of stage n (run n))
      (stage_leads stage n (omega arith)) (makes stage n (omega arith))
