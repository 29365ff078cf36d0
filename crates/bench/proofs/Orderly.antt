-- What every bench keeps, as the tests in its type have it and as the rules say it. Assumes nothing.
use Rattle.std.proofs.Common.{◌≡◌, ℕ, ◌<◌, Bool, false, not, Some, None, Decides, Option, sym, refl, ap, ◌∙◌, subst}
use Rattle.std.proofs.lemmas.Bool.{not-true}
use Rattle.run.specs.declared.event.Event.{Event}
use Rattle.bench.specs.declared.action.Action.{Action}
use Rattle.bench.specs.declared.action.Action.TheVariants.{Enter, Tie, Settle}
use Rattle.run.specs.declared.rule.Rule.{Rule}
use Rattle.run.specs.declared.rule.Rule.TheVariants.{Ranges, Steps, Initials, Sources}
use Rattle.run.specs.Runs.{Run, Stands, nothing}
use Rattle.run.specs.Rules.{Keeps, Kept}
use Rattle.bench.specs.Keeps.{Orderly}
use Rattle.bench.specs.Steps.{taken}
use Rattle.run.specs.Tests.{holds, broken, misplaced}
use Rattle.bench.specs.Tests.{NoneFaulty, NoneMisplaced, refusal}
use Rattle.run.proofs.Rules.{decided, settled_decided}
use Rattle.bench.proofs.Stays.{Open, entered_orderly}
use Rattle.bench.proofs.Marks.{tied_orderly, settled_orderly}
use Rattle.bench.proofs.Refused.{opened}

-- the facts in a bench's type, as its fields have them
pub record Tested (run : Run) : Type 0 where
  pub ranges : NoneFaulty Ranges run
  pub steps : NoneFaulty Steps run
  pub initials : NoneFaulty Initials run
  pub sources : NoneFaulty Sources run
  pub settlings : NoneMisplaced run

-- a test that no standing event fails says so of each, and the other way round
each_clear : (run : Run) (p : ℕ → Event → Bool) (P : ℕ → Event → Type 0) → ((n : ℕ) (e : Event) → Decides (not (p n e)) (P n e)) →
    ((n : ℕ) → n < 32 → holds (run n) (p n) ≡ false) → (n : ℕ) (e : Event) → Stands run n e → P n e
each_clear run p P each clear n e s = (each n e).0 (ap not (sym (ap (λ o. holds o (p n)) s.1) ∙ clear n s.0))

clear_each : (run : Run) (p : ℕ → Event → Bool) (P : ℕ → Event → Type 0) → ((n : ℕ) (e : Event) → Decides (not (p n e)) (P n e)) →
    ((n : ℕ) (e : Event) → Stands run n e → P n e) → (n : ℕ) → n < 32 → holds (run n) (p n) ≡ false
clear_each run p P each kept n l = go (run n) refl
  where
    go : (o : Option Event) → run n ≡ o → holds o (p n) ≡ false
    go None h = refl
    go (Some e) h = not-true (p n e) ((each n e).1 (kept n e (l, h)))

-- what is tested is kept
pub orderly : (run : Run) → Tested run → Orderly run
orderly run t =
    record {
      ranges = kept Ranges t.ranges;
      steps = kept Steps t.steps;
      initials = kept Initials t.initials;
      sources = kept Sources t.sources;
      settlings = each_clear run (misplaced run) _ (settled_decided run) t.settlings;
    }
  where
    kept : (rule : Rule) → NoneFaulty rule run → Kept rule run
    kept rule = each_clear run (broken rule run) (Keeps rule run) (decided rule run)

-- what is kept passes the tests
pub tested : (run : Run) → Orderly run → Tested run
tested run o =
    record {
      ranges = clear Ranges o.ranges;
      steps = clear Steps o.steps;
      initials = clear Initials o.initials;
      sources = clear Sources o.sources;
      settlings = clear_each run (misplaced run) _ (settled_decided run) o.settlings;
    }
  where
    clear : (rule : Rule) → Kept rule run → NoneFaulty rule run
    clear rule = clear_each run (broken rule run) (Keeps rule run) (decided rule run)

-- the run with no event passes
pub nothing_tested : (run : Run) → run ≡ nothing → Tested run
nothing_tested run h =
    subst Tested (sym h) (record { ranges = λ n l. refl; steps = λ n l. refl; initials = λ n l. refl; sources = λ n l. refl; settlings = λ n l. refl })

-- a step of an orderly run leads to an orderly one
stays : (run : Run) (a : Action) → Open run a → Orderly run → Orderly (taken run a)
stays run (Enter x) = entered_orderly run x
stays run (Tie r w) = tied_orderly run r w
stays run (Settle n) = settled_orderly run n

-- what the tests say lasts over a step that is not refused
pub lasts : (run after : Run) (a : Action) → refusal run a ≡ None → after ≡ taken run a → Tested run → Tested after
lasts run after a free is t = subst Tested (sym is) (tested (taken run a) (stays run a (opened run a free) (orderly run t)))
