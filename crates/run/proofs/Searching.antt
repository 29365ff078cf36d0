-- A search by a test that computes. Assumes nothing.
use Rattle.std.proofs.Common.{◌≡◌, ℕ, ◌<◌, ◌≤◌, Bool, true, false, ◌⊎◌, ◌≢◌, List, length, get_or, Some, None, Option, MatchOption, refl, sym, ap, ◌∙◌, subst, ⊎_elim, arith}
use Rattle.std.specs.Bool.{MatchBool}
use Rattle.std.specs.List.{HoldsAt, AllWithin, range_with_len}
use Rattle.std.proofs.lemmas.List.FromFn.{length-range_with_len, get_or-range_with_len}
use Rattle.std.proofs.lemmas.Option.{MatchOption-at_some}
use Rattle.std.proofs.lemmas.Bool.{both_ways, cases_Bool, cond_below, false≢true}
use Rattle.run.specs.declared.event.Event.{Event}
use Rattle.run.specs.Runs.{Run, Stands, shown, without}
use Rattle.run.specs.Searches.{Searched}
use Rattle.run.specs.Tests.{table_run, holds, some, Lowest}
use Rattle.run.proofs.Rules.{flag_decided, some_decided, others_stand, shown_stands, stands_shown}

-- the answer is what is computed
pub searched : (answers : Event → Bool → Type 0) (run : Run) (test : Event → Bool) (b : Bool) → Searched answers run b → ((e : Event) (b : Bool) → answers e b → b ≡ test e) → b ≡ some run test
searched answers run test true s computes =
    let f = s.some refl in
    sym ((some_decided run test (λ e. test e ≡ true) (λ e. flag_decided (test e))).1 (f.0, f.1, f.2, sym (computes f.1 true f.3)))
searched answers run test false s computes =
    ⊎_elim
    (λ h. let t = (some_decided run test (λ e. test e ≡ true) (λ e. flag_decided (test e))).0 h in absurd (both_ways (test t.1) (sym (computes t.1 false (s.none refl t.0 t.1 t.2))) t.3))
    sym
    (cases_Bool (some run test))

-- what is said of an option, where it is some event
abbrev pub Passes : (Event → Bool → Type 0) → Option Event → Type 0
Passes answers o = MatchOption o ⊥ (λ e. answers e true)

abbrev pub Fails : (Event → Bool → Type 0) → Option Event → Type 0
Fails answers o = MatchOption o (Unit {0}) (λ e. answers e false)

-- an option that passes is some event
passing : (answers : Event → Bool → Type 0) (o : Option Event) → Passes answers o → (e : Event) × (o ≡ Some e) × answers e true
passing answers None h = absurd h
passing answers (Some e) h = (e, refl, h)

-- a search through a table
pub searched_table : (answers : Event → Bool → Type 0) (events : List (Option Event)) (r : Bool) → length events ≡ 32 → MatchBool r ((k : ℕ) × (k < length events) × HoldsAt (Passes answers) events k) (AllWithin (Fails answers) events 0 (length events)) → Searched answers (table_run events) r
searched_table answers events true long h =
    let p = passing answers (table_run events h.0) (h.2 None) in
    record { some = λ e. (h.0, p.0, (omega (arith, h.1), p.1), p.2); none = λ e. absurd (false≢true (sym e)) }
searched_table answers events false long h =
    record {
      some = λ e. absurd (false≢true e);
      none = λ _ n e stands. MatchOption-at_some _ _ e stands.1 (h n None (omega arith) (omega (arith, stands.0)));
    }

-- a search through the numbers, with one left out
pub searched_others : (answers : Event → Bool → Type 0) (run : Run) (n : ℕ) (r : Bool) → MatchBool r ((k : ℕ) × (k < length (range_with_len 0 32)) × HoldsAt (λ m. (m ≢ n) × Passes answers (shown run m)) (range_with_len 0 32) k) (AllWithin (λ m. (m ≡ n) ⊎ Fails answers (shown run m)) (range_with_len 0 32) 0 (length (range_with_len 0 32))) → Searched answers (without n run) r
searched_others answers run n true h =
    let lt : h.0 < 32 = omega (arith, h.1, length-range_with_len 0 32) in
    let at : get_or (range_with_len 0 32) h.0 0 ≡ h.0 = omega (arith, get_or-range_with_len 0 32 h.0 0 lt) in
    let ne : h.0 ≢ n = λ e. (h.2 0).0 (at ∙ e) in
    let p = passing answers (shown run h.0) (subst (λ m. Passes answers (shown run m)) at (h.2 0).1) in
    record {
      some = λ e. (h.0, p.0, (others_stand run n h.0 p.0).1 (ne, shown_stands run h.0 p.0 p.1), p.2);
      none = λ e. absurd (false≢true (sym e));
    }
searched_others answers run n false h =
    record { some = λ e. absurd (false≢true e); none = λ _ m e stands. go m e ((others_stand run n m e).0 stands) }
  where
    go : (m : ℕ) (e : Event) → (m ≢ n) × Stands run m e → answers e false
    go m e s =
        let at : get_or (range_with_len 0 32) m 0 ≡ m = omega (arith, get_or-range_with_len 0 32 m 0 s.1.0) in
        ⊎_elim
        (λ same. absurd (s.0 (sym at ∙ same)))
        (λ f. MatchOption-at_some _ _ e (stands_shown run m e s.1) (subst (λ k. Fails answers (shown run k)) at f))
        (h m 0 (omega arith) (omega (arith, s.1.0, length-range_with_len 0 32)))

-- the lowest number found is that of the event at fault
pub lowest_shown : (run : Run) (test : ℕ → Event → Bool) (r : Option ℕ) → MatchOption r ((k : ℕ) → 0 ≤ k → k < 32 → holds (shown run k) (test k) ≡ false) (λ i. (0 ≤ i) × (i < 32) × (holds (shown run i) (test i) ≡ true) × ((k : ℕ) → 0 ≤ k → k < i → holds (shown run k) (test k) ≡ false)) → Lowest (λ k. holds (run k) (test k)) r
lowest_shown run test None h = λ k lt. ap (λ o. holds o (test k)) (cond_below k 32 (run k) None lt) ∙ h k (omega arith) lt
lowest_shown run test (Some i) h =
    record {
      within = h.1;
      true_there = ap (λ o. holds o (test i)) (cond_below i 32 (run i) None h.1) ∙ h.2;
      before = λ k lt. ap (λ o. holds o (test k)) (cond_below k 32 (run k) None (omega (arith, h.1))) ∙ h.3 k (omega arith) lt;
    }
