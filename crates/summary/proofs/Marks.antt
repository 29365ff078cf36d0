-- Events with a mark, as the code tests them and as they stand in the run. Assumes nothing.
use Rattle.std.proofs.Common.{◌≡◌, ℕ, zero, suc, ◌+◌, ◌≤◌, Bool, true, false, cond, List, length, take, count_by, None, Option, sym, refl, ap, ◌∙◌, add-one, arith}
use Rattle.std.proofs.lemmas.List.{take_all}
use Rattle.std.proofs.lemmas.List.Sums.{sum_by_more}
use Rattle.finite.specs.Counts.{Counts, Below, count_below}
use Rattle.finite.proofs.Counts.{count_same, count_none, count_more, count_done}
use Rattle.run.specs.Runs.{Run, shown}
use Rattle.run.specs.Tests.{holds, table_run}
use Rattle.run.proofs.Rules.{holds_decided, flag_decided}
use Rattle.run.proofs.Same.{Alike, stands_same, shown_alike}
use Rattle.run.specs.declared.event.Event.{Event}
use Rattle.summary.specs.Sums.{AtMark}

-- the test of a number
abbrev pub test : (Event → Bool) → Run → ℕ → Bool
test mark run n = holds (run n) mark

-- a number that passes the test has an event with the mark
there : (mark : Event → Bool) (run : Run) (n : ℕ) → Below (test mark run) 32 n → AtMark mark run n
there mark run n h = let e = (holds_decided (run n) mark (λ e. mark e ≡ true) (λ e. flag_decided (mark e))).0 h.1 in (e.0, (h.0, e.1), e.2)

back : (mark : Event → Bool) (run : Run) (n : ℕ) → AtMark mark run n → Below (test mark run) 32 n
back mark run n h = (h.1.0, (holds_decided (run n) mark (λ e. mark e ≡ true) (λ e. flag_decided (mark e))).1 (h.0, h.1.1, h.2))

module _ (mark : Event → Bool) (events : List (Option Event)) where
  -- of the first events of a table, those with the mark are counted
  of_first : (k : ℕ) → k ≤ length events → count_by (λ o. holds o mark) (take k events) ≡ count_below (test mark (table_run events)) k
  of_first zero h = sym (count_none (test mark (table_run events)))
  of_first (suc k) h =
      let more = rw (add-one k) at (sum_by_more (λ (o : Option Event). cond (holds o mark) 1 0) events k None (omega arith)) in
      let below = rw (add-one k) at (count_more (test mark (table_run events)) k) in
      more ∙ ap (λ n. n + cond (test mark (table_run events) k) 1 0) (of_first k (omega arith)) ∙ one (test mark (table_run events) k) (count_below (test mark (table_run events)) k) ∙ sym below
    where
      one : (b : Bool) (n : ℕ) → n + cond b 1 0 ≡ cond b (n + 1) n
      one true n = refl
      one false n = omega arith

  -- the events of a table with the mark are counted
  pub counted : (r : ℕ) → length events ≡ 32 → r ≡ count_by (λ o. holds o mark) events → Counts (AtMark mark (table_run events)) r
  counted r long found =
      let all = found ∙ ap (count_by (λ o. holds o mark)) (sym (take_all (length events) events (omega arith))) ∙ of_first (length events) (omega arith) in
      count_same (there mark (table_run events)) (back mark (table_run events)) (count_done (test mark (table_run events)) (length events) 32 long all)

-- a table that shows a run has its marks
pub counted_shown : (mark : Event → Bool) (table run : Run) (r : ℕ) → table ≡ shown run → Counts (AtMark mark table) r → Counts (AtMark mark run) r
counted_shown mark table run r is =
    let there : Alike table run = λ m l. ap (λ (t : Run). t m) is ∙ shown_alike run m l in
    let back : Alike run table = λ m l. sym (there m l) in
    count_same (λ n h. (h.0, stands_same table run there n h.0 h.1, h.2)) (λ n h. (h.0, stands_same run table back n h.0 h.1, h.2))
