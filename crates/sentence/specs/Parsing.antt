-- What the parser of expressions promises, against the machine; inner. Assumes nothing.
use Rattle.std.specs.Prelude.{◌≡◌, ℕ, ◌<◌, ◌≤◌, List, length, drop, Some, None, Ok, Err, Result}
use Rattle.sentence.specs.declared.sort.Sort.{Sort}
use Rattle.sentence.specs.declared.fault.SentenceFault.{SentenceFault}
use Rattle.sentence.specs.declared.fault.SentenceFault.TheVariants.{Memory, Place}
use Rattle.sentence.specs.declared.placed.Placed.{Placed}
use Rattle.sentence.specs.declared.tree.Expr.{Expr}
use Rattle.sentence.specs.Roles.{opens, starts, complements}
use Rattle.sentence.specs.Trees.{Tree, Bracket, Infix, rank, level, Sentence}
use Rattle.sentence.specs.Looks.{StandsAt, sign_at, post_at}
use Rattle.sentence.specs.Machine.{Owner, Frame, Wait, asked, fill, operand, after, outcome}
use Rattle.sentence.specs.Exprs.{tree_of}

-- in whatever statement and under whatever brackets: where an operand is due that has to hold together at most n tightly, the machine comes to behind this tree
pub record Led (ts : List Sort) (at n m : ℕ) (tree : Tree) (next : ℕ) : Type 0 where
  pub leads : (p : Sentence) (o : Owner) (fs : List Frame) (w : Wait) → asked w ≤ n →
      outcome (operand p o fs w) at (drop at ts) ≡ outcome (after p o fs (fill w tree)) next (drop next ts)
  pub past : at < next
  pub within : next ≤ length ts
  -- the tree holds together at least so tightly
  pub tight : m ≤ level tree

-- or it is stuck at k
abbrev pub StuckAt : List Sort → ℕ → ℕ → ℕ → Type 0
StuckAt ts at n k = (p : Sentence) (o : Owner) (fs : List Frame) (w : Wait) → asked w ≤ n → outcome (operand p o fs w) at (drop at ts) ≡ Err k

abbrev pub Faulted : List Sort → ℕ → ℕ → SentenceFault → Type 0
Faulted ts at n Memory = Unit {0}
Faulted ts at n (Place k) = StuckAt ts at n k

abbrev pub Parsed : List Sort → ℕ → ℕ → ℕ → Result (Placed Expr) SentenceFault → Type 0
Parsed ts at n m (Ok r) = Led ts at n m (tree_of r.item) r.next
Parsed ts at n m (Err f) = Faulted ts at n f

-- what follows goes on with no sign behind and no infix sign as tight as n
pub record Halts (ts : List Sort) (n next : ℕ) : Type 0 where
  pub loose : (i : Infix) → sign_at ts next ≡ Some i → rank i < n
  pub bare : post_at ts next ≡ None

abbrev pub Halted : List Sort → ℕ → Result (Placed Expr) SentenceFault → Type 0
Halted ts n (Ok r) = Halts ts n r.next
Halted ts n (Err f) = Unit {0}

-- no prefix stands there
abbrev pub Unprefixed : List Sort → ℕ → Type 0
Unprefixed ts at = ¬ StandsAt ts at complements

-- this bracket opens there
abbrev pub Opened : List Sort → ℕ → Bracket → Type 0
Opened ts at b = StandsAt ts at (starts (opens b))
