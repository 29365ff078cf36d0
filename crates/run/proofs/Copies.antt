-- A table filled from a source, number by number. Assumes nothing.
use Rattle.std.proofs.Common.{◌≡◌, ℕ, zero, suc, ◌+◌, ◌<◌, ◌≤◌, List, None, Option, sym, ap, ◌∙◌, subst, ⊎_elim, arith}
use Rattle.std.specs.Fn.{Mut, Called}
use Rattle.std.specs.Array.{IsFromFnResult, IsFromFnResultFrom}
use mathlib.Core.Path.{fun_ext}
use Rattle.std.proofs.lemmas.List.{get_or_past}
use Rattle.std.proofs.lemmas.Bool.{cases_eq, cases_lt, cond_above}
use Rattle.run.specs.declared.event.Event.{Event}
use Rattle.run.specs.Runs.{Run, shown}
use Rattle.run.specs.Tests.{table_run}

-- where a closure computes what is at each number, the table that its calls make has it
pub copied_each : {F : Type 0} (g : Mut F (ℕ × Unit {0}) (Option Event)) (f : F) (run : Run) → ((k : ℕ) (o : Option Event) (q : F) → Called g f (k, tt) o q → (q ≡ f) × (o ≡ run k)) → (events : List (Option Event)) (i n : ℕ) → IsFromFnResultFrom g f events i n → (k : ℕ) → i ≤ k → k < i + n → table_run events k ≡ run k
copied_each g f run acts events i zero each k from below = absurd (omega arith)
copied_each g f run acts events i (suc n) each k from below =
    let turn = acts i each.1 each.0 each.3 in
    ⊎_elim
    (λ same. ap (table_run events) same ∙ each.2.1 None ∙ turn.1 ∙ ap run (sym same))
    (λ other. copied_each g f run acts events (i + 1) n (subst (λ q. IsFromFnResultFrom g q events (i + 1) n) turn.0 each.4) k (omega arith) (omega arith))
    (cases_eq k i)

-- such a table holds what the source shows
pub copied_all : {F : Type 0} (g : Mut F (ℕ × Unit {0}) (Option Event)) (f : F) (run : Run) → ((k : ℕ) (o : Option Event) (q : F) → Called g f (k, tt) o q → (q ≡ f) × (o ≡ shown run k)) → (events : List (Option Event)) → IsFromFnResult g f events 32 → table_run events ≡ shown run
copied_all g f run acts events made =
    fun_ext (λ k. ⊎_elim (λ lt. copied_each g f (shown run) acts events 0 32 made.each k (omega arith) (omega arith)) (λ past. cond_above k 32 (run k) None (table_run events k) past (get_or_past events k None (omega (arith, made.long)))) (cases_lt k 32))
