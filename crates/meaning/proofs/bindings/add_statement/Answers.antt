use Rattle.std.proofs.Common.{ap, rules}
use mathlib.Core.Path.{subst⁻¹}
use Rattle.term.specs.Statements.{statement_of, binding_of}
use Rattle.meaning.specs.Knowns.{Added}
use Rattle.meaning.proofs.Knowing.{added_let, full_let, added_check}
use Rattle.meaning.proofs.bindings.add_statement.Goals as goal

pub returns-then-many-lt-ROOM : goal.returns-then-many-lt-ROOM
returns-then-many-lt-ROOM c =
    subst⁻¹ (λ s. Added c.args.base.now (statement_of s) c.args.values.now c.push.new.self) c.in-Let.is
    (added_let c.args.base.now (binding_of c.in-Let.binding) c.args.values.now c.push.new.self c.evaluate-value.result c.push.ensures.room
    (rw c.under.ensures.known at (rw c.under.ensures.base at c.evaluate-value.ensures)))

pub returns-else-many-lt-ROOM : goal.returns-else-many-lt-ROOM
returns-else-many-lt-ROOM c = full_let c.args.base.now (binding_of c.in-Let.binding) c.args.values.now (ap statement_of c.in-Let.is) (search rules)

pub returns-in-Group : goal.returns-in-Group
returns-in-Group c =
    subst⁻¹ (λ s. Added c.args.base.now (statement_of s) c.args.values.now c.add_group.new.values) c.in-Group.is
    (rw c.as_slice.ensures.value at c.add_group.ensures)

pub returns-in-Check : goal.returns-in-Check
returns-in-Check c = added_check c.args.base.now _ c.args.values.now (ap statement_of c.in-Check.is)
