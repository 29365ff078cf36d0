-- Names at fault: in a term by its shape, of bindings and of statements. Assumes nothing.
use Rattle.std.proofs.Common.{◌≡◌, ℕ, min, List, map, Some, None, Option, Box, ◌⊎◌, sym, refl, ap, ◌∙◌, inl, inr}
use Rattle.std.specs.List.{filter_map, reduce}
use Rattle.term.specs.declared.statement.Binding as program_binding
use Rattle.term.specs.declared.statement.Statement as program
use Rattle.term.specs.declared.term.Term as boxed
use Rattle.term.specs.declared.term.Term.TheVariants.{Given as Given', Bound}
use Rattle.term.specs.declared.term.Term.{Test, Complement, Ended}
use Rattle.std.specs.declared.alloc.Global.{Global}
use Rattle.term.specs.Least.{least, lower}
use Rattle.term.specs.Terms.{Term, Given, Post, Infix, given, bound, unbound, test, complement, ended, joined, term_of}
use Rattle.term.specs.Statements.{binding_of, statement_of, statements_of}
use Rattle.term.specs.Names.{unbound_names, binding_names, group_names, statement_names, name_faults}
use Rattle.term.proofs.Shapes.{shape_test, shape_complement, shape_ended}
use Rattle.term.proofs.Lowering.{least_none, least_one, least_both, lowest_items}

-- the term that is known by its shape has these
names_are : {u v : Term} {r : Option ℕ} → u ≡ v → r ≡ least (unbound_names v) → r ≡ least (unbound_names u)
names_are e h = h ∙ ap (λ w. least (unbound_names w)) (sym e)

pub names_given : {u : Term} {g : Given} → u ≡ given g → None ≡ least (unbound_names u)
unfolding unbound_names
names_given e = names_are e (sym least_none)

pub names_bound : {u : Term} {k i : ℕ} → u ≡ bound k i → None ≡ least (unbound_names u)
unfolding unbound_names
names_bound e = names_are e (sym least_none)

pub names_unbound : {u : Term} {k : ℕ} → u ≡ unbound k → Some k ≡ least (unbound_names u)
unfolding unbound_names
names_unbound {k = k} e = names_are e (sym (least_one k))

pub names_test : {u v : Term} {k : ℕ} {r : Option ℕ} → u ≡ test k v → r ≡ least (unbound_names v) → r ≡ least (unbound_names u)
unfolding unbound_names
names_test e h = names_are e h

pub names_complement : {u v : Term} {r : Option ℕ} → u ≡ complement v → r ≡ least (unbound_names v) → r ≡ least (unbound_names u)
unfolding unbound_names
names_complement e h = names_are e h

pub names_ended : {u v : Term} {k : ℕ} {p : Post} {r : Option ℕ} → u ≡ ended k p v → r ≡ least (unbound_names v) → r ≡ least (unbound_names u)
unfolding unbound_names
names_ended e h = names_are e h

pub names_joined : {u l m : Term} {k : ℕ} {i : Infix} {r a b : Option ℕ} → u ≡ joined k i l m → r ≡ lower a b → a ≡ least (unbound_names l) → b ≡ least (unbound_names m) → r ≡ least (unbound_names u)
unfolding unbound_names
names_joined {l = l} {m} e h f g = names_are e (least_both (unbound_names l) (unbound_names m) h f g)

-- what has no part, and what has the names of its part
pub names_none : {t : boxed.Term} → ((g : Given) × (t ≡ Given' g)) ⊎ ((k : ℕ) × (i : ℕ) × (t ≡ Bound k i)) → None ≡ least (unbound_names (term_of t))
names_none (inl (g, is)) = names_given (ap term_of is)
names_none (inr (k, i, is)) = names_bound (ap term_of is)

pub names_inside : {t u : boxed.Term} {b : Box boxed.Term Global} {r : Option ℕ} → ((k : ℕ) × (t ≡ Test k b)) ⊎ ((t ≡ Complement b) ⊎ ((k : ℕ) × (p : Post) × (t ≡ Ended k p b))) → u ≡ b.value →
    r ≡ least (unbound_names (term_of u)) → r ≡ least (unbound_names (term_of t))
names_inside (inl (k, is)) e h = names_test (shape_test is e) h
names_inside (inr (inl is)) e h = names_complement (shape_complement is e) h
names_inside (inr (inr (k, p, is))) e h = names_ended (shape_ended is e) h

-- the first name at fault in a group, and in all statements
pub group_least : {r : Option ℕ} (bs : List program_binding.Binding) → r ≡ reduce min (filter_map (λ b. least (binding_names (binding_of b))) bs) → r ≡ least (group_names (map binding_of bs))
unfolding group_names
group_least bs h = lowest_items (λ b. binding_names (binding_of b)) (λ l. group_names (map binding_of l)) refl (λ b l. refl) bs h

pub names_least : {r : Option ℕ} (ss : List program.Statement) → r ≡ reduce min (filter_map (λ s. least (statement_names (statement_of s))) ss) → r ≡ least (name_faults (statements_of ss))
unfolding name_faults
names_least ss h = lowest_items (λ s. statement_names (statement_of s)) (λ l. name_faults (statements_of l)) refl (λ s l. refl) ss h
