-- A search for the event at a source is a look at what is shown there. Assumes nothing.
use Rattle.std.proofs.Common.{◌≡◌, ℕ, Bool, true, false, ◌&&◌, eqb, Some, None, Decides, Option, MatchOption, refl, subst}
use Rattle.std.proofs.lemmas.Bool.{false≢true}
use Rattle.std.proofs.lemmas.Bool.Decides.{Decides-at, Decides-eqb, Decides-like, Decides-and, Decides-below_or, same_from_decides}
use Rattle.run.specs.declared.event.Event.{Event}
use Rattle.run.specs.Runs.{Run, Stands, shown}
use Rattle.run.specs.Tests.{any_below, holds, sourced_at}
use Rattle.run.proofs.Rules.{flag_decided, holds_decided, shown_decided}

-- an event stands at the source and passes the test
abbrev pub AtSource : Run → Option ℕ → (Event → Bool) → Type 0
AtSource run o test = (m : ℕ) × (f : Event) × Stands run m f × (o ≡ Some m) × (test f ≡ true)

-- the test of a source decides where it is
sourced_decided : (o : Option ℕ) (m : ℕ) → Decides (sourced_at o m) (o ≡ Some m)
sourced_decided None m = (λ e. absurd (false≢true e), λ e. cc e)
sourced_decided (Some w) m = Decides-like (eqb m w) (λ e. cc e) (λ e. cc e) (Decides-eqb m w)

-- a search by the number of the source decides it
by_number_decided : (run : Run) (o : Option ℕ) (test : Event → Bool) → Decides (any_below (λ m. holds (run m) (λ f. sourced_at o m && test f)) 32) (AtSource run o test)
unfolding any_below
by_number_decided run o test =
    let p : ℕ → Bool = λ m. holds (run m) (λ f. sourced_at o m && test f) in
    Decides-like _
    (λ h. (h.0, h.2.0, (h.1, h.2.1), h.2.2.0, h.2.2.1))
    (λ h. (h.0, h.2.0, (h.1, h.2.1, (h.3, h.4))))
    (Decides-below_or p (λ m. (f : Event) × (run m ≡ Some f) × ((o ≡ Some m) × (test f ≡ true))) (any_below p) (λ m. holds_decided (run m) _ (λ f. (o ≡ Some m) × (test f ≡ true)) (λ f. Decides-and _ _ (sourced_decided o m) (flag_decided (test f)))) refl (λ _. refl) 32)

-- so does a look at what is shown there
looked_up_decided : (run : Run) (o : Option ℕ) (test : Event → Bool) (r : Bool) → MatchOption o (r ≡ false) (λ w. r ≡ holds (shown run w) test) → Decides r (AtSource run o test)
looked_up_decided run None test r is = Decides-at r false is (λ e. absurd (false≢true e), λ h. cc h.3)
looked_up_decided run (Some w) test r is =
    Decides-at r _ is
    (Decides-like _
    (λ h. (w, h.0, h.1, refl, h.2))
    (λ h. let same : h.0 ≡ w = cc h.3 in (h.1, subst (λ m. Stands run m h.1) same h.2, h.4))
    (shown_decided run w test (λ f. test f ≡ true) (λ f. flag_decided (test f))))

-- and the two come out alike
pub source_linked : (run : Run) (o : Option ℕ) (test : Event → Bool) (r : Bool) → MatchOption o (r ≡ false) (λ w. r ≡ holds (shown run w) test) → r ≡ any_below (λ m. holds (run m) (λ f. sourced_at o m && test f)) 32
source_linked run o test r is = same_from_decides r _ (looked_up_decided run o test r is) (by_number_decided run o test)
