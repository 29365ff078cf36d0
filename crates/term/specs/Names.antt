-- Names at fault: those that mean nothing where they stand, and those that cannot be bound. Assumes nothing.
use Rattle.std.specs.Prelude.{ℕ, List, [], ◌∷◌, ◌++◌}
use Rattle.term.specs.Terms.{Term, given, bound, unbound, test, complement, ended, joined}
use Rattle.term.specs.Statements.{Binding, Statement, lets, groups, checks}
use Rattle.term.specs.Least.{fault_if}

-- the tokens of a term's names that are neither given nor bound
unfoldable pub unbound_names : Term → List ℕ
unbound_names (given g) = []
unbound_names (bound k i) = []
unbound_names (unbound k) = k ∷ []
unbound_names (test k t) = unbound_names t
unbound_names (complement t) = unbound_names t
unbound_names (ended k p t) = unbound_names t
unbound_names (joined k i l r) = unbound_names l ++ unbound_names r

-- of a binding: its name if it cannot be bound, and those of its term
abbrev pub binding_names : Binding → List ℕ
binding_names b = fault_if b.taken b.token ++ unbound_names b.term

unfoldable pub group_names : List Binding → List ℕ
group_names [] = []
group_names (b ∷ bs) = binding_names b ++ group_names bs

abbrev pub statement_names : Statement → List ℕ
statement_names (lets b) = binding_names b
statement_names (groups bs) = group_names bs
statement_names (checks c) = unbound_names c.term

-- of all statements
unfoldable pub name_faults : List Statement → List ℕ
name_faults [] = []
name_faults (s ∷ ss) = statement_names s ++ name_faults ss
