-- Kinds and their faults: of a term by its shape, and as a loop goes through bindings and statements. Assumes nothing.
use Rattle.std.proofs.Common.{◌≡◌, ℕ, ◌+◌, ◌<◌, ◌≤◌, Bool, cond, not, List, [], ◌∷◌, ◌++◌, map, length, get_or, drop, min, None, Option, sym, refl, ap, ◌∙◌}
use Rattle.std.specs.List.{filter_map, reduce}
use Rattle.term.specs.declared.statement.Binding as program_binding
use Rattle.term.specs.declared.statement.Statement as program
use Rattle.term.specs.Least.{least, lower, fault_if}
use Rattle.term.specs.Terms.{Term, Given, Post, Infix, given, bound, unbound, test, complement, ended, joined}
use Rattle.term.specs.Statements.{Statement, groups, binding_of, statement_of, statements_of}
use Rattle.term.specs.Kinds.{Kind, relation, torn, given_kind, as_set, as_relation, fits, made, behind, kind, kind_faults, relations, binding_kinds, group_kinds, known_after, statement_kinds, all_kinds}
use Rattle.term.proofs.Lowering.{least_none, least_both, lowest_items, Rest, rest_turn, rest_end}

-- a place that is at fault unless a test holds, and other faults
pub unless_least : {r a : Option ℕ} (holds really : Bool) (p : ℕ) (ys : List ℕ) → r ≡ lower (least (fault_if (not holds) p)) a → holds ≡ really → a ≡ least ys → r ≡ least (fault_if (not really) p ++ ys)
unless_least {a = a} holds really p ys h e f = least_both (fault_if (not really) p) ys (h ∙ ap (λ b. lower (least (fault_if (not b) p)) a) e) refl f

-- a kind and a fault that are those of a term
pub record Examined (known : List Kind) (u : Term) (k : Kind) (f : Option ℕ) : Type 0 where
  pub kind_is : k ≡ kind known u
  pub fault_is : f ≡ least (kind_faults known u)

-- the term is known by its shape
examined_as : {known : List Kind} {u v : Term} {k : Kind} {f : Option ℕ} → u ≡ v → k ≡ kind known v → f ≡ least (kind_faults known v) → Examined known u k f
examined_as {known} e h g = record { kind_is = h ∙ ap (kind known) (sym e); fault_is = g ∙ ap (λ w. least (kind_faults known w)) (sym e) }

pub examined_given : {known : List Kind} {u : Term} {k : Kind} {f : Option ℕ} (g : Given) → u ≡ given g → k ≡ given_kind g → f ≡ None → Examined known u k f
unfolding kind kind_faults
examined_given g e h n = examined_as e h (n ∙ sym least_none)

pub examined_bound : {known : List Kind} {u : Term} {k : Kind} {f : Option ℕ} {p i : ℕ} → u ≡ bound p i → k ≡ get_or known i torn → f ≡ None → Examined known u k f
unfolding kind kind_faults
examined_bound e h n = examined_as e h (n ∙ sym least_none)

pub examined_unbound : {known : List Kind} {u : Term} {k : Kind} {f : Option ℕ} {p : ℕ} → u ≡ unbound p → k ≡ torn → f ≡ None → Examined known u k f
unfolding kind kind_faults
examined_unbound e h n = examined_as e h (n ∙ sym least_none)

pub examined_test : {known : List Kind} {u v : Term} {k a : Kind} {f g : Option ℕ} {p : ℕ} → u ≡ test p v → a ≡ kind known v → g ≡ least (kind_faults known v) → k ≡ cond (as_set a) (behind a relation) torn →
    f ≡ lower (least (fault_if (not (as_set a)) p)) g → Examined known u k f
unfolding kind kind_faults
examined_test {known} {v = v} {a = a} {p = p} e h i s l =
    examined_as e (s ∙ ap (λ x. cond (as_set x) (behind x relation) torn) h) (unless_least (as_set a) (as_set (kind known v)) p (kind_faults known v) l (ap as_set h) i)

pub examined_complement : {known : List Kind} {u v : Term} {k : Kind} {f : Option ℕ} → u ≡ complement v → k ≡ kind known v → f ≡ least (kind_faults known v) → Examined known u k f
unfolding kind kind_faults
examined_complement e h i = examined_as e h i

pub examined_ended : {known : List Kind} {u v : Term} {k a : Kind} {f g : Option ℕ} {p : ℕ} {s : Post} → u ≡ ended p s v → a ≡ kind known v → g ≡ least (kind_faults known v) → k ≡ cond (as_relation a) a torn →
    f ≡ lower (least (fault_if (not (as_relation a)) p)) g → Examined known u k f
unfolding kind kind_faults
examined_ended {known} {v = v} {a = a} {p = p} e h i s l =
    examined_as e (s ∙ ap (λ x. cond (as_relation x) x torn) h) (unless_least (as_relation a) (as_relation (kind known v)) p (kind_faults known v) l (ap as_relation h) i)

-- what a sign gives of two operands
abbrev joined_kind : Infix → Kind → Kind → Kind
joined_kind i x y = cond (fits i x y) (behind x (behind y (made i x))) torn

pub examined_joined : {known : List Kind} {u v w : Term} {k a b : Kind} {f g o : Option ℕ} {p : ℕ} (i : Infix) → u ≡ joined p i v w → a ≡ kind known v → g ≡ least (kind_faults known v) → b ≡ kind known w →
    o ≡ least (kind_faults known w) → k ≡ cond (fits i a b) (behind a (behind b (made i a))) torn → f ≡ lower (least (fault_if (not (fits i a b)) p)) (lower g o) → Examined known u k f
unfolding kind kind_faults
examined_joined {known} {v = v} {w} {a = a} {b} {p = p} i e h j q m s l =
    examined_as e (s ∙ ap (λ x. joined_kind i x b) h ∙ ap (joined_kind i (kind known v)) q)
    (unless_least (fits i a b) (fits i (kind known v) (kind known w)) p (kind_faults known v ++ kind_faults known w) l (ap (λ x. fits i x b) h ∙ ap (fits i (kind known v)) q)
    (least_both (kind_faults known v) (kind_faults known w) refl j m))

-- the first fault of a group
pub group_least : {r : Option ℕ} (known : List Kind) (bs : List program_binding.Binding) → r ≡ reduce min (filter_map (λ b. least (binding_kinds known (binding_of b))) bs) → r ≡ least (group_kinds known (map binding_of bs))
unfolding group_kinds
group_least known bs h = lowest_items (λ b. binding_kinds known (binding_of b)) (λ l. group_kinds known (map binding_of l)) refl (λ b l. refl) bs h

-- the names of a group are relations
pub relations_are : (bs : List program_binding.Binding) → relations (map binding_of bs) ≡ map (λ _. relation) bs
unfolding relations
relations_are [] = refl
relations_are (b ∷ bs) = ap (λ l. relation ∷ l) (relations_are bs)

-- what is left of the statements, with the kinds that are known before it
abbrev pub KindsLeft : List Kind → Option ℕ → ℕ → List program.Statement → Type 0
KindsLeft known fault i ss = Rest fault (all_kinds known (statements_of (drop i ss))) (all_kinds [] (statements_of ss))

pub kinds_more : {fault here new : Option ℕ} (known after : List Kind) (ss : List program.Statement) (i : ℕ) (s : program.Statement) → i < length ss → s ≡ get_or ss i s → KindsLeft known fault i ss →
    after ≡ known_after known (statement_of s) → here ≡ least (statement_kinds known (statement_of s)) → new ≡ lower fault here → KindsLeft after new (i + 1) ss
unfolding all_kinds
kinds_more known after ss i s lt is inv k h n =
    rest_turn (λ l. all_kinds known (statements_of l)) (λ l. all_kinds after (statements_of l)) ss i s (statement_kinds known (statement_of s)) (all_kinds [] (statements_of ss)) lt is
    (ap (λ l. statement_kinds known (statement_of s) ++ all_kinds l (statements_of (drop (i + 1) ss))) (sym k)) inv h n

pub kinds_done : {fault : Option ℕ} (known : List Kind) (ss : List program.Statement) (i : ℕ) → length ss ≤ i → KindsLeft known fault i ss → fault ≡ least (all_kinds [] (statements_of ss))
unfolding all_kinds
kinds_done known ss i le inv = rest_end (λ l. all_kinds known (statements_of l)) ss i (all_kinds [] (statements_of ss)) le refl inv

-- a group: its names are known, and then its terms are looked at
pub grouped : {fault : Option ℕ} (known after : List Kind) {shown : List Kind} {items : List program_binding.Binding} {u : Statement} (bs : List program_binding.Binding) → u ≡ groups (map binding_of bs) → items ≡ bs →
    after ≡ known ++ map (λ _. relation) items → shown ≡ after → fault ≡ least (group_kinds shown (map binding_of items)) → (fault ≡ least (statement_kinds known u)) × (after ≡ known_after known u)
grouped known after {items = items} bs is e h sl f =
    let of = is ∙ ap (λ l. groups (map binding_of l)) (sym e) in
    let behind = h ∙ ap (λ l. known ++ l) (sym (relations_are items)) in
    (f ∙ ap (λ l. least (group_kinds l (map binding_of items))) (sl ∙ behind) ∙ ap (λ w. least (statement_kinds known w)) (sym of), behind ∙ ap (known_after known) (sym of))
