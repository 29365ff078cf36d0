-- Names that are denied in their group: in a term by its shape, and as a loop goes through bindings and statements, counting bindings. Assumes nothing.
use Rattle.std.proofs.Common.{◌≡◌, ℕ, ◌+◌, ◌*◌, ◌<◌, ◌≤◌, min, Bool, true, false, ◌&&◌, ◌||◌, List, ◌++◌, map, length, get_or, drop, None, Option, Vec, Box, ◌⊎◌, sym, refl, ap, ◌∙◌, inl, inr, arith}
use borrow.Author.Tests.{clash}
use Rattle.std.specs.List.{filter_map, reduce}
use Rattle.term.specs.declared.statement.Binding as program_binding
use Rattle.term.specs.declared.statement.Statement as program
use Rattle.term.specs.declared.statement.Statement.TheVariants.{Let, Group, Check}
use Rattle.term.specs.declared.term.Term as boxed
use Rattle.term.specs.declared.term.Term.TheVariants.{Given as Given', Unbound}
use Rattle.term.specs.declared.term.Term.{Test, Ended}
use Rattle.std.specs.declared.alloc.Global.{Global}
use Rattle.term.specs.Least.{least, lower, fault_if}
use Rattle.term.specs.Terms.{Term, Given, Post, Infix, given, bound, unbound, test, complement, ended, joined, term_of}
use Rattle.term.specs.Statements.{binding_of, statement_of, statements_of}
use Rattle.term.specs.Recursion.{of_group, denies_right, denied, group_denied, binds, statement_denied, all_denied}
use Rattle.term.proofs.Shapes.{shape_test, shape_ended}
use Rattle.term.proofs.Lowering.{least_none, least_both, lowest_items, Rest, rest_turn, rest_end}

-- the term is known by its shape
denied_are : (first many : ℕ) (under : Bool) {u v : Term} {r : Option ℕ} → u ≡ v → r ≡ least (denied first many under v) → r ≡ least (denied first many under u)
denied_are first many under e h = h ∙ ap (λ w. least (denied first many under w)) (sym e)

pub denied_given : (first many : ℕ) (under : Bool) {u : Term} {g : Given} → u ≡ given g → None ≡ least (denied first many under u)
unfolding denied
denied_given first many under e = denied_are first many under e (sym least_none)

-- two tests, of which the second is made only where the first leaves it open
pub true_both : (a b : Bool) → a ≡ true → b ≡ (a && b)
true_both true b e = refl
true_both false b e = absurd (clash e)

pub false_both : (a b : Bool) → a ≡ false → a ≡ (a && b)
false_both true b e = absurd (clash (sym e))
false_both false b e = refl

pub true_either : (a b : Bool) → a ≡ true → a ≡ (a || b)
true_either true b e = refl
true_either false b e = absurd (clash e)

pub false_either : (a b : Bool) → a ≡ false → b ≡ (a || b)
false_either true b e = absurd (clash (sym e))
false_either false b e = refl

pub denied_bound : (first many : ℕ) (under : Bool) {u : Term} {k i : ℕ} {r : Option ℕ} (here : Bool) → u ≡ bound k i → here ≡ (under && of_group first many i) → r ≡ least (fault_if here k) → r ≡ least (denied first many under u)
unfolding denied
denied_bound first many under {k = k} here e h f = denied_are first many under e (f ∙ ap (λ b. least (fault_if b k)) h)

pub denied_unbound : (first many : ℕ) (under : Bool) {u : Term} {k : ℕ} → u ≡ unbound k → None ≡ least (denied first many under u)
unfolding denied
denied_unbound first many under e = denied_are first many under e (sym least_none)

pub denied_test : (first many : ℕ) (under : Bool) {u v : Term} {k : ℕ} {r : Option ℕ} → u ≡ test k v → r ≡ least (denied first many under v) → r ≡ least (denied first many under u)
unfolding denied
denied_test first many under e h = denied_are first many under e h

pub denied_complement : (first many : ℕ) (under : Bool) {u v : Term} {r : Option ℕ} → u ≡ complement v → r ≡ least (denied first many true v) → r ≡ least (denied first many under u)
unfolding denied
denied_complement first many under e h = denied_are first many under e h

pub denied_ended : (first many : ℕ) (under : Bool) {u v : Term} {k : ℕ} {p : Post} {r : Option ℕ} → u ≡ ended k p v → r ≡ least (denied first many under v) → r ≡ least (denied first many under u)
unfolding denied
denied_ended first many under e h = denied_are first many under e h

pub denied_joined : (first many : ℕ) (under : Bool) {u v w : Term} {k : ℕ} {r a b : Option ℕ} (i : Infix) (over : Bool) → u ≡ joined k i v w → over ≡ (under || denies_right i) → r ≡ lower a b → a ≡ least (denied first many under v) →
    b ≡ least (denied first many over w) → r ≡ least (denied first many under u)
unfolding denied
denied_joined first many under {v = v} {w} i over e s h f g =
    denied_are first many under e (least_both (denied first many under v) (denied first many (under || denies_right i) w) h f (g ∙ ap (λ b. least (denied first many b w)) s))

-- what has no part, and what is as its part is
pub denied_none : (first many : ℕ) (under : Bool) {t : boxed.Term} → ((g : Given) × (t ≡ Given' g)) ⊎ ((k : ℕ) × (t ≡ Unbound k)) → None ≡ least (denied first many under (term_of t))
denied_none first many under (inl (g, is)) = denied_given first many under (ap term_of is)
denied_none first many under (inr (k, is)) = denied_unbound first many under (ap term_of is)

pub denied_inside : (first many : ℕ) (under : Bool) {t u : boxed.Term} {b : Box boxed.Term Global} {r : Option ℕ} → ((k : ℕ) × (t ≡ Test k b)) ⊎ ((k : ℕ) × (p : Post) × (t ≡ Ended k p b)) → u ≡ b.value →
    r ≡ least (denied first many under (term_of u)) → r ≡ least (denied first many under (term_of t))
denied_inside first many under (inl (k, is)) e h = denied_test first many under (shape_test is e) h
denied_inside first many under (inr (k, p, is)) e h = denied_ended first many under (shape_ended is e) h

-- the first name that is denied in a group
pub group_least : {r : Option ℕ} (first : ℕ) (bs : List program_binding.Binding) → r ≡ reduce min (filter_map (λ b. least (denied first (length bs) false (term_of b.term))) bs) → r ≡ least (group_denied first (length bs) (map binding_of bs))
unfolding group_denied
group_least first bs h = lowest_items (λ b. denied first (length bs) false (term_of b.term)) (λ l. group_denied first (length bs) (map binding_of l)) refl (λ b l. refl) bs h

-- what is left of the statements, with so many bindings before it, which are few enough for 128 bits
pub record Counted (n : ℕ) (fault : Option ℕ) (i : ℕ) (ss : List program.Statement) : Type 0 where
  pub left : Rest fault (all_denied n (statements_of (drop i ss))) (all_denied 0 (statements_of ss))
  pub few : n ≤ i * 18446744073709551616

pub counted_more : {fault here new : Option ℕ} (n i k : ℕ) (ss : List program.Statement) (s : program.Statement) → i < length ss → s ≡ get_or ss i s → Counted n fault i ss → k < 18446744073709551616 →
    k ≡ binds (statement_of s) → here ≡ least (statement_denied n (statement_of s)) → new ≡ lower fault here → Counted (n + k) new (i + 1) ss
unfolding all_denied
counted_more n i k ss s lt is inv small e h m = record {
  left =
      rest_turn (λ l. all_denied n (statements_of l)) (λ l. all_denied (n + k) (statements_of l)) ss i s (statement_denied n (statement_of s)) (all_denied 0 (statements_of ss)) lt is
      (ap (λ j. statement_denied n (statement_of s) ++ all_denied (n + j) (statements_of (drop (i + 1) ss))) (sym e)) inv.left h m;
  few = omega (arith, inv.few);
}

pub counted_done : {fault : Option ℕ} (n i : ℕ) (ss : List program.Statement) → length ss ≤ i → Counted n fault i ss → fault ≡ least (all_denied 0 (statements_of ss))
unfolding all_denied
counted_done n i ss le inv = rest_end (λ l. all_denied n (statements_of l)) ss i (all_denied 0 (statements_of ss)) le refl inv.left

-- what is no group denies nothing
pub denied_other : (n : ℕ) (s : program.Statement) → ((bs : Vec program_binding.Binding Global) → s ≡ Group bs → ⊥) → None ≡ least (statement_denied n (statement_of s))
denied_other n (Let b) h = sym least_none
denied_other n (Group bs) h = absurd (h bs refl)
denied_other n (Check c) h = sym least_none
