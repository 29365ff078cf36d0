-- The places of names and other leaves: in an expression as among its sorts. Assumes nothing.
use Rattle.std.specs.Prelude.{◌≡◌, ℕ, suc, ◌+◌, Bool, true, false, cond, List, [], ◌∷◌, ◌++◌, length, Ok, Err, Result}
use Rattle.sentence.specs.declared.sort.Sort.{Sort}
use Rattle.sentence.specs.declared.fault.SentenceFault.{SentenceFault}
use Rattle.sentence.specs.declared.tree.Expr.{Expr}
use Rattle.sentence.specs.declared.tree.Expr.TheVariants.{Atom, Inside', Tilde', Ended', Joined'}
use Rattle.sentence.specs.declared.placed.Placed.{Placed}
use Rattle.sentence.specs.Trees.{Tree, spell}
use Rattle.sentence.specs.Roles.{leaf, Role, starts, role}
use Rattle.sentence.specs.Exprs.{tree_of}

-- a name, `_`, `0` or `{}`
abbrev pub leaf_role : Role → Bool
leaf_role (starts (leaf l)) = true
leaf_role r = false

-- their places among sorts that begin at a place
unfoldable pub places : ℕ → List Sort → List ℕ
places i [] = []
places i (s ∷ ts) = cond (leaf_role (role s)) (i ∷ places (suc i) ts) (places (suc i) ts)

-- the places that an expression's leaves have, in the text's order
abbrev pub seats_of : Expr → List ℕ
seats_of (Atom l k) = k ∷ []
seats_of (Inside' b p e) = seats_of e
seats_of (Tilde' p e) = seats_of e
seats_of (Ended' p e s) = seats_of e
seats_of (Joined' i p l q r) = seats_of l ++ seats_of r

-- an expression made has these
abbrev pub KeepsSeats : Result Expr SentenceFault → List ℕ → Type 0
KeepsSeats (Ok e) ks = seats_of e ≡ ks
KeepsSeats (Err f) ks = Unit {0}

-- a tree that begins at a place: how far it reaches, and where its leaves stand
pub record Seated (at : ℕ) (t : Tree) (ks : List ℕ) (next : ℕ) : Type 0 where
  pub spans : next ≡ at + length (spell t)
  pub seats : ks ≡ places at (spell t)

abbrev pub SeatedAs : ℕ → Result (Placed Expr) SentenceFault → Type 0
SeatedAs at (Ok r) = Seated at (tree_of r.item) (seats_of r.item) r.next
SeatedAs at (Err f) = Unit {0}
