-- Expressions of the program as trees. Assumes nothing.
use Rattle.std.specs.Prelude.{◌≡◌, Ok, Err, Result}
use Rattle.sentence.specs.declared.fault.SentenceFault.{SentenceFault}
use Rattle.sentence.specs.declared.fault.SentenceFault.TheVariants.{Memory}
use Rattle.sentence.specs.declared.tree.Expr.{Expr}
use Rattle.sentence.specs.declared.tree.Expr.TheVariants.{Atom, Inside', Tilde', Ended', Joined'}
use Rattle.sentence.specs.Trees.{Tree, atom, inside, tilde, ended, joined}

-- the tree, without its places
abbrev pub tree_of : Expr → Tree
tree_of (Atom l k) = atom l
tree_of (Inside' b p e) = inside b (tree_of e)
tree_of (Tilde' p e) = tilde (tree_of e)
tree_of (Ended' p e s) = ended (tree_of e) s
tree_of (Joined' i p l q r) = joined i (tree_of l) (tree_of r)

-- the expression with this tree, or want of memory
abbrev pub Made : Result Expr SentenceFault → Tree → Type 0
Made (Ok e) t = tree_of e ≡ t
Made (Err f) t = f ≡ Memory
