-- Statements of the program as those of the grammar, and what their parser promises against the machine; inner. Assumes nothing.
use Rattle.std.specs.Prelude.{◌≡◌, ℕ, ◌<◌, ◌≤◌, Bool, List, [], ◌∷◌, length, drop, Ok, Err, vec_items, Result}
use Rattle.sentence.specs.declared.sort.Sort.{Sort}
use Rattle.sentence.specs.declared.fault.SentenceFault.{SentenceFault}
use Rattle.sentence.specs.declared.fault.SentenceFault.TheVariants.{Memory, Place}
use Rattle.sentence.specs.declared.statement.Binding as binding
use Rattle.sentence.specs.declared.statement.Mark as mark
use Rattle.sentence.specs.declared.statement.Mark.TheVariants.{Plain, Labelled, Flagged}
use Rattle.sentence.specs.declared.statement.Statement as statement
use Rattle.sentence.specs.declared.statement.Statement.TheVariants.{Let, Group, Check}
use Rattle.sentence.specs.declared.statement.Sentence as sentence
use Rattle.sentence.specs.declared.placed.Placed.{Placed}
use Rattle.sentence.specs.Trees.{Tree, Word, Mark, plain, labelled, flagged, Statement, binds, groups, checks, Sentence}
use Rattle.sentence.specs.Machine.{Binding, of_binding, of_check, State, ready, name_due, after, also, outcome}
use Rattle.sentence.specs.Parsing.{Halts}
use Rattle.sentence.specs.Exprs.{tree_of}

abbrev pub mark_of : {L : Type 0} → mark.Mark L → Mark
mark_of Plain = plain
mark_of (Labelled k) = labelled
mark_of (Flagged k) = flagged

abbrev pub trees_of : List binding.Binding → List Tree
trees_of [] = []
trees_of (b ∷ bs) = tree_of b.tree ∷ trees_of bs

abbrev pub statement_of : statement.Statement → Statement
statement_of (Let b) = binds (tree_of b.tree)
statement_of (Group b bs) = groups (tree_of b.tree) (trees_of (vec_items bs))
statement_of (Check c) = checks (mark_of c.mark) c.negated c.word (tree_of c.tree)

abbrev pub statements_of : List statement.Statement → List Statement
statements_of [] = []
statements_of (s ∷ ss) = statement_of s ∷ statements_of ss

abbrev pub sentence_of : sentence.Sentence → Sentence
sentence_of x = record { titled = x.titled; statements = statements_of (vec_items x.statements) }

-- whatever the sentence so far: from such a state the machine comes to be ready with this statement more
pub record GoesOn (c : Sentence → State) (ts : List Sort) (at : ℕ) (s : Statement) (next : ℕ) : Type 0 where
  pub leads : (p : Sentence) → outcome (c p) at (drop at ts) ≡ outcome (ready (also p s)) next (drop next ts)
  pub past : at < next
  pub within : next ≤ length ts

-- or it is stuck
abbrev pub GetsStuck : (Sentence → State) → List Sort → ℕ → SentenceFault → Type 0
GetsStuck c ts at Memory = Unit {0}
GetsStuck c ts at (Place k) = (p : Sentence) → outcome (c p) at (drop at ts) ≡ Err k

abbrev pub Stated : (Sentence → State) → List Sort → ℕ → Result (Placed statement.Statement) SentenceFault → Type 0
Stated c ts at (Ok r) = GoesOn c ts at (statement_of r.item) r.next
Stated c ts at (Err f) = GetsStuck c ts at f

-- a binding, whosever it is
pub record GoesBound (ts : List Sort) (at : ℕ) (t : Tree) (next : ℕ) : Type 0 where
  pub leads : (p : Sentence) (b : Binding) → outcome (name_due p b) at (drop at ts) ≡ outcome (after p (of_binding b) [] t) next (drop next ts)
  pub past : at < next
  pub within : next ≤ length ts
  pub halts : Halts ts 1 next

abbrev pub Unbound : List Sort → ℕ → SentenceFault → Type 0
Unbound ts at Memory = Unit {0}
Unbound ts at (Place k) = (p : Sentence) (b : Binding) → outcome (name_due p b) at (drop at ts) ≡ Err k

abbrev pub Binds : List Sort → ℕ → Result (Placed binding.Binding) SentenceFault → Type 0
Binds ts at (Ok r) = GoesBound ts at (tree_of r.item.tree) r.next
Binds ts at (Err f) = Unbound ts at f

-- the mark of a check behind its expression, whichever check it is
pub record GoesMarked (ts : List Sort) (at : ℕ) (f : Bool) (m : Mark) (next : ℕ) : Type 0 where
  pub leads : (p : Sentence) (n : Bool) (w : Word) (t : Tree) → outcome (after p (of_check f n w) [] t) at (drop at ts) ≡ outcome (ready (also p (checks m n w t))) next (drop next ts)
  pub past : at ≤ next
  pub within : next ≤ length ts

abbrev pub Unmarked : List Sort → ℕ → Bool → SentenceFault → Type 0
Unmarked ts at f Memory = Unit {0}
Unmarked ts at f (Place k) = (p : Sentence) (n : Bool) (w : Word) (t : Tree) → outcome (after p (of_check f n w) [] t) at (drop at ts) ≡ Err k

abbrev pub Marks : List Sort → ℕ → Bool → Result (Placed (mark.Mark ℕ)) SentenceFault → Type 0
Marks ts at f (Ok r) = GoesMarked ts at f (mark_of r.item) r.next
Marks ts at f (Err e) = Unmarked ts at f e
