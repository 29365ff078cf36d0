-- Kinds: which terms are sets, which relations, and which signs have operands of wrong kinds. Assumes nothing.
use Rattle.std.specs.Prelude.{ℕ, Bool, true, false, cond, not, ◌&&◌, List, [], ◌∷◌, ◌++◌, slice_index_or}
pub use Rattle.term.specs.declared.kind.Kind.{Kind}
pub use Rattle.term.specs.declared.kind.Kind.TheVariants.{Set as set, Relation as relation, Torn as torn}
use Rattle.term.specs.declared.term.Given.TheVariants.{Universe, NoPairs, NoEvents, Reads, Writes, Fences, Branches, Memory, Initial, Settled, ProgramOrder, ReadsFrom, SameLocation, OtherThread, Identity, Coherence}
use Rattle.term.specs.Terms.{Given, Term, given, bound, unbound, test, complement, ended, joined, Infix, bar, semicolon, backslash, ampersand, product}
use Rattle.term.specs.Statements.{Binding, Claim, Statement, lets, groups, checks, Word, acyclic, irreflexive, empty}
use Rattle.term.specs.Least.{fault_if}

-- the kind of what is given
abbrev pub given_kind : Given → Kind
given_kind Universe = set
given_kind NoPairs = relation
given_kind NoEvents = set
given_kind Reads = set
given_kind Writes = set
given_kind Fences = set
given_kind Branches = set
given_kind Memory = set
given_kind Initial = set
given_kind Settled = set
given_kind ProgramOrder = relation
given_kind ReadsFrom = relation
given_kind SameLocation = relation
given_kind OtherThread = relation
given_kind Identity = relation
given_kind Coherence = relation

-- it can serve as a set, as a relation
abbrev pub as_set : Kind → Bool
as_set set = true
as_set relation = false
as_set torn = true

abbrev pub as_relation : Kind → Bool
as_relation set = false
as_relation relation = true
as_relation torn = true

-- two can be of one kind
abbrev pub one_kind : Kind → Kind → Bool
one_kind set j = as_set j
one_kind relation j = as_relation j
one_kind torn j = true

-- whether the operands of an infix sign fit: two of one kind, two relations, two sets
abbrev pub fits : Infix → Kind → Kind → Bool
fits bar k j = one_kind k j
fits semicolon k j = as_relation k && as_relation j
fits backslash k j = one_kind k j
fits ampersand k j = one_kind k j
fits product k j = as_set k && as_set j

-- what an infix sign gives of operands that fit
abbrev pub made : Infix → Kind → Kind
made bar k = k
made semicolon k = relation
made backslash k = k
made ampersand k = k
made product k = relation

-- the kind behind one that may be torn: torn if it is
abbrev pub behind : Kind → Kind → Kind
behind set k = k
behind relation k = k
behind torn k = torn

-- the kind of a term; the kinds of the bindings before it are known by their numbers
unfoldable pub kind : List Kind → Term → Kind
kind known (given g) = given_kind g
kind known (bound k i) = slice_index_or known i torn
kind known (unbound k) = torn
kind known (test k t) = cond (as_set (kind known t)) (behind (kind known t) relation) torn
kind known (complement t) = kind known t
kind known (ended k p t) = cond (as_relation (kind known t)) (kind known t) torn
kind known (joined k i l r) = cond (fits i (kind known l) (kind known r)) (behind (kind known l) (behind (kind known r) (made i (kind known l)))) torn

-- the tokens of the signs of a term whose operands have wrong kinds
unfoldable pub kind_faults : List Kind → Term → List ℕ
kind_faults known (given g) = []
kind_faults known (bound k i) = []
kind_faults known (unbound k) = []
kind_faults known (test k t) = fault_if (not (as_set (kind known t))) k ++ kind_faults known t
kind_faults known (complement t) = kind_faults known t
kind_faults known (ended k p t) = fault_if (not (as_relation (kind known t))) k ++ kind_faults known t
kind_faults known (joined k i l r) = fault_if (not (fits i (kind known l) (kind known r))) k ++ (kind_faults known l ++ kind_faults known r)

-- the names of a group are relations
unfoldable pub relations : List Binding → List Kind
relations [] = []
relations (b ∷ bs) = relation ∷ relations bs

-- of a binding of a group: its name if its term is a set, and the faults inside the term
abbrev pub binding_kinds : List Kind → Binding → List ℕ
binding_kinds known b = fault_if (not (as_relation (kind known b.term))) b.token ++ kind_faults known b.term

-- of the bindings of a group
unfoldable pub group_kinds : List Kind → List Binding → List ℕ
group_kinds known [] = []
group_kinds known (b ∷ bs) = binding_kinds known b ++ group_kinds known bs

-- acyclic and irreflexive take a relation, empty either kind
abbrev pub takes : Word → Kind → Bool
takes acyclic k = as_relation k
takes irreflexive k = as_relation k
takes empty k = true

-- of a check: its word if that does not take its term, and the faults inside the term
abbrev pub claim_kinds : List Kind → Claim → List ℕ
claim_kinds known c = fault_if (not (takes c.word (kind known c.term))) c.token ++ kind_faults known c.term

-- what is known behind a statement
abbrev pub known_after : List Kind → Statement → List Kind
known_after known (lets b) = known ++ (kind known b.term ∷ [])
known_after known (groups bs) = known ++ relations bs
known_after known (checks c) = known

-- the faults of a statement, of all statements
abbrev pub statement_kinds : List Kind → Statement → List ℕ
statement_kinds known (lets b) = kind_faults known b.term
statement_kinds known (groups bs) = group_kinds (known ++ relations bs) bs
statement_kinds known (checks c) = claim_kinds known c

unfoldable pub all_kinds : List Kind → List Statement → List ℕ
all_kinds known [] = []
all_kinds known (s ∷ ss) = statement_kinds known s ++ all_kinds (known_after known s) ss
