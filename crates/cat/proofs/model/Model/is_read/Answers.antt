use Rattle.std.proofs.Common.{◌≡◌, Bool, true, false, vec_items, Vec, is_some, Some, None, Option, sym, refl}
use borrow.Author.Tests.{clash}
use Rattle.std.specs.Option.{ForSome}
use Rattle.std.specs.declared.alloc.Global.{Global}
use Rattle.term.specs.declared.statement.Statement as program
use Rattle.term.specs.Statements.{statements_of}
use Rattle.cat.specs.declared.model.Model.{Model}
use Rattle.cat.specs.Readings.{HasText}
use Rattle.cat.specs.Models.{read_statements, IsRead}
use Rattle.cat.proofs.model.Model.is_read.Goals as goal

-- what is held has a text, where something is; else nothing is held
some_text : (o : Option (Vec program.Statement Global)) → is_some o ≡ true → ForSome o (λ v. ∥ HasText (statements_of (vec_items v)) ∥₁) → ∥ HasText (read_statements o) ∥₁
some_text (Some v) e h = h v refl
some_text None e h = absurd (clash e)

none_held : (o : Option (Vec program.Statement Global)) → is_some o ≡ false → o ≡ None
none_held (Some v) e = absurd (clash (sym e))
none_held None e = refl

is_read : (m : Model) (b : Bool) → b ≡ is_some m.statements → IsRead m b
is_read m true e = (sym e, some_text m.statements (sym e) m.text)
is_read m false e = none_held m.statements (sym e)

pub returns : goal.returns
returns c = is_read c.args.self.now c.is_some.result c.is_some.ensures
