-- Pairs of events by a test of both, row by row. Assumes nothing.
use Rattle.std.proofs.Common.{◌≡◌, ℕ, ◌<◌, Bool, List, Some, None, Decides, Option, sym, ◌∙◌, refl, subst, ⊎_elim, arith}
use Rattle.std.proofs.lemmas.Bool.{cases_lt}
use Rattle.std.proofs.lemmas.List.{get_or_past}
use Rattle.run.specs.declared.event.Event.{Event}
use Rattle.run.specs.Runs.{Run, Stands}
use Rattle.run.specs.Masks.{Gathered}
use Rattle.relation.specs.Relations.{Pairs, SamePairs}
use Rattle.relation.specs.Masks.{Marks, Shows}
use Rattle.relation.specs.Marked.{marks_as, nothing_marks}
use Rattle.given.specs.Givens.{those, between}
use Rattle.given.specs.Bonds.{RowOf, Bonded}
use Rattle.given.proofs.Gathered.{gathered_marks}

-- an event stands at the first number, and it has the bond to one at the second
abbrev pub Bond : Run → (ℕ → Event → Event → Type 0) → Pairs
Bond run P a b = (e : Event) × Stands run a e × those run (P a e) b

module _ (answers : ℕ → Event → Event → Bool → Type 0) (run : Run) (test : ℕ → Event → Event → Bool) (P : ℕ → Event → Event → Type 0) (computes : (a : ℕ) (e f : Event) (b : Bool) → answers a e f b → b ≡ test a e f) (decides : (a : ℕ) (e f : Event) → Decides (test a e f) (P a e f)) where
  -- a row shows what the event at its number has the bond to
  row_marks : (a row : ℕ) → a < 32 → RowOf answers run a row → Marks row (Bond run P a)
  row_marks a row lt r = at (run a) refl
    where
      at : (o : Option Event) → run a ≡ o → Marks row (Bond run P a)
      at None is =
          let none : row ≡ 0 = r.clear is in
          subst (λ x. Marks x (Bond run P a)) (sym none)
          (marks_as _ _ nothing_marks (λ b. (λ e. absurd e, λ h. let clash : ◌≡◌ {A = Option Event} None (Some h.0) = sym is ∙ h.1.1 in cc clash)))
      at (Some e) is =
          marks_as _ _ (gathered_marks (answers a e) run (test a e) (P a e) (computes a e) (decides a e) (r.answered e (lt, is)))
          (λ b. (λ h. (e, (lt, is), h), λ h. let same : h.0 ≡ e = cc (h.1.1, is) in subst (λ d. those run (P a d) b) same h.2))

  -- so the rows show the pairs that have it
  pub bonded_shows : (rows : List ℕ) → Bonded answers run rows → Shows rows (Bond run P)
  bonded_shows rows m =
      record {
        long = m.long;
        fits = λ a. ⊎_elim (λ lt. (row_marks a _ lt (m.each a lt)).fits) (λ ge. let none = get_or_past rows a 0 (omega (arith, m.long)) in omega (arith, none)) (cases_lt a 32);
        same = λ a b. (
          λ r. ((row_marks a _ r.within (m.each a r.within)).same b).0 r.there,
          λ h. record { within = h.1.0; there = ((row_marks a _ h.1.0 (m.each a h.1.0)).same b).1 h },
        );
      }

-- rows show every relation with the same pairs
pub shows_as : {rows : List ℕ} (R S : Pairs) → Shows rows R → SamePairs R S → Shows rows S
shows_as R S s h = record { long = s.long; fits = s.fits; same = λ a b. (λ r. (h a b).0 ((s.same a b).0 r), λ k. (s.same a b).1 ((h a b).1 k)) }

-- of a bond that does not ask for the number, they show the pairs of events that have it
pub between_shows : (answers : ℕ → Event → Event → Bool → Type 0) (run : Run) (test : Event → Event → Bool) (P : Event → Event → Type 0) → ((a : ℕ) (e f : Event) (b : Bool) → answers a e f b → b ≡ test e f) → ((e f : Event) → Decides (test e f) (P e f)) → {rows : List ℕ} → Bonded answers run rows → Shows rows (between run P)
between_shows answers run test P computes decides {rows} m =
    shows_as _ _ (bonded_shows answers run (λ a. test) (λ a. P) computes (λ a. decides) rows m)
    (λ a b. (λ h. (h.0, h.2.0, h.1, h.2.1, h.2.2), λ h. (h.0, h.2, (h.1, h.3, h.4))))

-- where an event stands, the row is what was gathered
pub row_some : {given : Event → Bool → Type 0} (answers : ℕ → Event → Event → Bool → Type 0) (run : Run) (a : ℕ) (e : Event) (row : ℕ) → run a ≡ Some e → ((f : Event) (b : Bool) → given f b → answers a e f b) → Gathered given run row → RowOf answers run a row
row_some answers run a e row here says g =
    record {
      answered = λ d at.
          let same : e ≡ d = cc (here, at.1) in
          subst (λ x. Gathered (answers a x) run row) same (record { fits = g.fits; answered = λ n f stands. says f _ (g.answered n f stands); clear = g.clear });
      clear = λ none. let clash : ◌≡◌ {A = Option Event} None (Some e) = sym none ∙ here in cc clash;
    }
