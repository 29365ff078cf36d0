-- A mask of the events that pass a test, filled number by number. Assumes nothing.
use Rattle.std.proofs.Common.{◌≡◌, ℕ, ◌+◌, ◌*◌, ◌%◌, ◌^◌, ◌<◌, ◌≤◌, Bool, true, false, eqb, Some, None, Option, MatchOption, refl, sym, ap, ◌∙◌, subst, ⊎_elim, arith, w32}
use lib.Bits.{bit_or}
use Rattle.std.proofs.lemmas.Nat.{or_lt}
use Rattle.std.proofs.lemmas.Nat.Bits.{bit_at_set_same, bit_at_set_other}
use Rattle.std.proofs.lemmas.Option.{MatchOption-at_some, MatchOption-at_none}
use Rattle.std.proofs.lemmas.Bool.{both_ways, cases_eq, cond_below, cond_above}
use Rattle.run.specs.declared.event.Event.{Event}
use Rattle.run.specs.Runs.{Run}
use Rattle.run.specs.Tests.{holds}
use Rattle.run.specs.Masks.{has, Gathered}

-- the numbers below n are gone through
pub record Underway (answers : Event → Bool → Type 0) (run : Run) (n mask : ℕ) : Type 0 where
  pub fits : mask < 2 ^ 32
  pub answered : (k : ℕ) (e : Event) → k < n → run k ≡ Some e → answers e (has mask k)
  pub clear : (k : ℕ) → k < n → run k ≡ None → has mask k ≡ false
  pub ahead : (k : ℕ) → n ≤ k → has mask k ≡ false

module _ (answers : Event → Bool → Type 0) (run : Run) (n mask next : ℕ) (b : Bool) (met : Event → Type 0) (lt : n < 32) (u : Underway answers run n mask) (asked : MatchOption (run n) (b ≡ false) met) (says : (e : Event) → met e → answers e b) where
  -- one more, where the test answers true
  pub underway_found : b ≡ true → next ≡ bit_or mask ((1 * 2 ^ n) % 2 ^ 32) → Underway answers run (n + 1) next
  underway_found passes is =
      let set : has next n ≡ true = ap (λ m. has m n) is ∙ ap (λ d. eqb d 1) (bit_at_set_same w32 mask n lt) in
      let other : (k : ℕ) → (k ≡ n → ⊥) → has next k ≡ has mask k = λ k ne. ap (λ m. has m k) is ∙ ap (λ d. eqb d 1) (bit_at_set_other w32 mask n lt k ne) in
      record {
        fits = subst (λ m. m < 2 ^ 32) (sym is) (or_lt 32 mask _ u.fits (omega arith));
        answered = λ k f below at.
            ⊎_elim
            (λ same. subst (answers f) (passes ∙ sym (ap (has next) same ∙ set)) (says f (MatchOption-at_some _ _ f (ap run (sym same) ∙ at) asked)))
            (λ ne. subst (answers f) (sym (other k ne)) (u.answered k f (omega arith) at))
            (cases_eq k n);
        clear = λ k below at.
            ⊎_elim
            (λ same. absurd (both_ways b (MatchOption-at_none _ _ (ap run (sym same) ∙ at) asked) passes))
            (λ ne. other k ne ∙ u.clear k (omega arith) at)
            (cases_eq k n);
        ahead = λ k le. other k (λ same. omega arith) ∙ u.ahead k (omega arith);
      }

  -- one more, where nothing stands or the test answers false
  pub underway_passed : b ≡ false → next ≡ mask → Underway answers run (n + 1) next
  underway_passed fails is =
      let same_bits : (k : ℕ) → has next k ≡ has mask k = λ k. ap (λ m. has m k) is in
      record {
        fits = subst (λ m. m < 2 ^ 32) (sym is) u.fits;
        answered = λ k f below at.
            ⊎_elim
            (λ same. subst (answers f) (fails ∙ sym (same_bits k ∙ u.ahead k (omega arith))) (says f (MatchOption-at_some _ _ f (ap run (sym same) ∙ at) asked)))
            (λ ne. subst (answers f) (sym (same_bits k)) (u.answered k f (omega arith) at))
            (cases_eq k n);
        clear = λ k below at. same_bits k ∙ ⊎_elim (λ same. u.ahead k (omega arith)) (λ ne. u.clear k (omega arith) at) (cases_eq k n);
        ahead = λ k le. same_bits k ∙ u.ahead k (omega arith);
      }

-- where the test computes, each number has its answer
pub gathered_at : (answers : Event → Bool → Type 0) (run : Run) (test : Event → Bool) {mask : ℕ} → ((e : Event) (b : Bool) → answers e b → b ≡ test e) → Gathered answers run mask → (n : ℕ) → n < 32 → has mask n ≡ holds (run n) test
gathered_at answers run test {mask} computes g n lt = at (run n) refl
  where
    at : (o : Option Event) → run n ≡ o → has mask n ≡ holds o test
    at None is = g.clear n (sym (cond_below n 32 (run n) None lt) ∙ is)
    at (Some e) is = computes e _ (g.answered n e (lt, is))

-- and past 31 there is none
pub gathered_past : (answers : Event → Bool → Type 0) (run : Run) {mask : ℕ} → Gathered answers run mask → (n : ℕ) → 32 ≤ n → has mask n ≡ false
gathered_past answers run g n le = g.clear n (sym (cond_above n 32 (run n) None None le refl))
