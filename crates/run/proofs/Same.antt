-- The tests and the rules look at a run only below 32. Assumes nothing.
use Rattle.std.proofs.Common.{◌≡◌, ℕ, ◌<◌, Bool, cond, not, ◌&&◌, eqb, Some, None, Option, sym, refl, ap, ◌∙◌, subst, ⊎_elim}
use mathlib.Core.Path.{fun_ext}
use Rattle.std.proofs.lemmas.Bool.{cases_lt, cond_below, cond_above}
use Rattle.run.specs.declared.event.Event.{Event}
use Rattle.run.specs.declared.rule.Rule.{Rule}
use Rattle.run.specs.declared.rule.Rule.TheVariants.{Ranges, Steps, Initials, Sources, Settlings, Initialised, Tied}
use Rattle.run.specs.declared.rule.Breach.{Breach}
use Rattle.run.specs.Runs.{Run, Stands, shown}
use Rattle.run.specs.Rules.{Keeps, Kept, Examined}
use Rattle.run.specs.Tests.{holds, is_read, is_initial, is_write, is_memory, is_threaded, same_place, same_step, supplies, some, some_other, ill_sourced, broken, faulty}
use Rattle.run.proofs.Below.{any_same}
use Rattle.run.proofs.Rules.{decided}

-- the two runs have the same events
abbrev pub Alike : Run → Run → Type 0
Alike run other = (m : ℕ) → m < 32 → run m ≡ other m

module _ (run other : Run) (same : Alike run other) where
  -- a test of the events comes out alike
  pub some_same : (test : Event → Bool) → some run test ≡ some other test
  some_same test = any_same _ _ 32 (λ m lt. ap (λ o. holds o test) (same m lt))

  -- and so does a test of the others
  pub some_other_same : (n : ℕ) (test : Event → Bool) → some_other run n test ≡ some_other other n test
  some_other_same n test = any_same _ _ 32 (λ m lt. ap (λ o. holds (cond (eqb m n) None o) test) (same m lt))

  -- what is shown is alike
  shown_same : (n : ℕ) → shown run n ≡ shown other n
  shown_same n =
      ⊎_elim
      (λ lt. sym (cond_below n 32 (run n) None lt) ∙ same n lt ∙ cond_below n 32 (other n) None lt)
      (λ le. sym (cond_above n 32 (run n) None None le refl) ∙ cond_above n 32 (other n) None None le refl)
      (cases_lt n 32)

  -- and so is the test of a source
  pub ill_sourced_same : (e : Event) (o : Option ℕ) → ill_sourced run e o ≡ ill_sourced other e o
  ill_sourced_same e None = refl
  ill_sourced_same e (Some w) = ap (λ o. not (is_read e && holds o (supplies e))) (shown_same w)

  -- the test of a rule comes out alike
  pub broken_same : (rule : Rule) (n : ℕ) (e : Event) → broken rule run n e ≡ broken rule other n e
  broken_same Ranges n e = refl
  broken_same Steps n e = ap (λ b. is_threaded e && b) (some_other_same n (λ f. same_step f e))
  broken_same Initials n e = ap (λ b. is_initial e && b) (some_other_same n (λ f. is_initial f && same_place f e))
  broken_same Sources n e = ill_sourced_same e e.source
  broken_same Settlings n e = rw (some_other_same n (λ f. is_write f && (f.settled && same_place f e)), some_other_same n (λ f. is_write f && same_place f e)) refl
  broken_same Initialised n e = ap (λ b. is_memory e && not b) (some_same (λ f. is_initial f && same_place f e))
  broken_same Tied n e = refl

  -- and so does that of the event at a number
  pub faulty_same : (rule : Rule) (n : ℕ) → n < 32 → faulty rule run n ≡ faulty rule other n
  faulty_same rule n lt = ap (λ o. holds o (broken rule run n)) (same n lt) ∙ ap (holds (other n)) (fun_ext (broken_same rule n))

  -- an event of the one stands in the other
  pub stands_same : (n : ℕ) (e : Event) → Stands run n e → Stands other n e
  stands_same n e h = (h.0, sym (same n h.0) ∙ h.1)

  -- a rule that an event keeps in the one it keeps in the other
  pub keeps_same : (rule : Rule) (n : ℕ) (e : Event) → Keeps rule run n e → Keeps rule other n e
  keeps_same rule n e h = (decided rule other n e).0 (ap not (sym (broken_same rule n e)) ∙ (decided rule run n e).1 h)

-- a rule that the one run keeps the other keeps
pub kept_same : (run other : Run) → Alike run other → Alike other run → (rule : Rule) → Kept rule run → Kept rule other
kept_same run other there back rule kept n e stands = keeps_same run other there rule n e (kept n e (stands_same other run back n e stands))

-- what holds of the one run's answer holds of the other's
pub examined_same : (run other : Run) → Alike run other → Alike other run → (r : Option Breach) → Examined run r → Examined other r
examined_same run other there back None sound = λ rule. kept_same run other there back rule (sound rule)
examined_same run other there back (Some b) found =
    record {
      event = found.event;
      stands = stands_same run other there b.event found.event found.stands;
      at_fault = λ keeps. found.at_fault (keeps_same other run back b.rule b.event found.event keeps);
      lowest = λ n e lt stands. keeps_same run other there b.rule n e (found.lowest n e lt (stands_same other run back n e stands));
      first = λ rule lt. kept_same run other there back rule (found.first rule lt);
    }

-- what a source shows below 32 is its run
pub shown_alike : (run : Run) → Alike (shown run) run
shown_alike run m lt = sym (cond_below m 32 (run m) None lt)

-- a table that holds what a source shows answers for the source
pub examined_shown : (table run : Run) (r : Option Breach) → table ≡ shown run → Examined table r → Examined run r
examined_shown table run r same found =
    examined_same (shown run) run (shown_alike run) (λ m lt. sym (shown_alike run m lt)) r (subst (λ t. Examined t r) same found)
