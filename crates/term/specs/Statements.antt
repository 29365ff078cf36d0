-- Statements whose names are resolved. Assumes nothing.
use Rattle.std.specs.Prelude.{ℕ, Bool, List, [], ◌∷◌, map, vec_items, Vec}
use Rattle.std.specs.declared.alloc.Global.{Global}
pub use Rattle.sentence.specs.declared.sign.Word.{Word}
pub use Rattle.sentence.specs.declared.sign.Word.TheVariants.{Acyclic as acyclic, Irreflexive as irreflexive, Empty as empty}
use Rattle.term.specs.declared.statement.Binding as program_binding
use Rattle.sentence.specs.declared.statement.Mark as program_mark
use Rattle.sentence.specs.declared.statement.Mark.TheVariants.{Plain, Labelled, Flagged}
use Rattle.term.specs.declared.statement.Check as program_check
use Rattle.term.specs.declared.statement.Statement as program
use Rattle.term.specs.declared.statement.Statement.TheVariants.{Let, Group, Check}
use Rattle.term.specs.Terms.{Term, term_of}

-- a bound name by its token; whether it is given, or bound before in its group; what it is bound to
pub record Binding : Type 0 where
  pub token : ℕ
  pub taken : Bool
  pub term : Term

-- neither flag nor label, a label, or a flag with its label
pub data Mark : Type 0 where
  plain : Mark
  labelled : List ℕ → Mark
  flagged : List ℕ → Mark

-- a check: its mark, whether it is negated, its word by its token too, what it is about
pub record Claim : Type 0 where
  pub mark : Mark
  pub negated : Bool
  pub token : ℕ
  pub word : Word
  pub term : Term

-- a let, a let rec group, a check
pub data Statement : Type 0 where
  lets : Binding → Statement
  groups : List Binding → Statement
  checks : Claim → Statement

-- those of the program
abbrev pub binding_of : program_binding.Binding → Binding
binding_of b = record { token = b.token; taken = b.taken; term = term_of b.term }

abbrev pub mark_of : program_mark.Mark (Vec ℕ Global) → Mark
mark_of Plain = plain
mark_of (Labelled label) = labelled (vec_items label)
mark_of (Flagged label) = flagged (vec_items label)

abbrev pub claim_of : program_check.Check → Claim
claim_of c = record { mark = mark_of c.mark; negated = c.negated; token = c.token; word = c.word; term = term_of c.term }

abbrev pub statement_of : program.Statement → Statement
statement_of (Let b) = lets (binding_of b)
statement_of (Group bs) = groups (map binding_of (vec_items bs))
statement_of (Check c) = checks (claim_of c)

abbrev pub statements_of : List program.Statement → List Statement
statements_of ss = map statement_of ss

-- the checks among statements, in text order
unfoldable pub claims : List Statement → List Claim
claims [] = []
claims (lets b ∷ ss) = claims ss
claims (groups bs ∷ ss) = claims ss
claims (checks c ∷ ss) = c ∷ claims ss
