-- Models: what they hold. Assumes nothing.
use Rattle.std.specs.Prelude.{◌≡◌, ℕ, Bool, true, false, List, [], vec_items, Vec, Some, None, Option}
use Rattle.std.specs.Option.{IsSome}
use Rattle.std.specs.declared.alloc.Global.{Global}
use Rattle.term.specs.declared.statement.Statement as program
use Rattle.term.specs.Statements.{Statement, statements_of}
use Rattle.cat.specs.declared.model.Model.{Model}
use Rattle.cat.specs.Readings.{Reads, HasText}

-- the statements that were read; none where nothing was
abbrev pub read_statements : Option (Vec program.Statement Global) → List Statement
read_statements None = []
read_statements (Some v) = statements_of (vec_items v)

-- the statements that a model holds
abbrev pub model_statements : Model → List Statement
model_statements m = read_statements m.statements

-- no text is read into it
abbrev pub Unread : Model → Type 0
Unread m = m.statements ≡ None

-- the text is read into it
pub record HoldsText (m : Model) (text : List ℕ) : Type 0 where
  pub known : IsSome m.statements
  pub reads : Reads text (model_statements m)

-- whether a text is read into it; then some text is
abbrev pub IsRead : Model → Bool → Type 0
IsRead m true = IsSome m.statements × ∥ HasText (model_statements m) ∥₁
IsRead m false = Unread m
