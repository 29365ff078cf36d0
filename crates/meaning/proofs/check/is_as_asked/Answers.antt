use mathlib.Core.Path.{subst⁻¹}
use Rattle.std.proofs.Common.{Decides}
use Rattle.relation.specs.Masks.{Related}
use Rattle.term.specs.Statements.{acyclic}
use Rattle.meaning.specs.Operators.{pairs_of}
use Rattle.meaning.specs.Checks.{Asked}
use Rattle.meaning.specs.Tables.{value_meaning}
use Rattle.meaning.proofs.Asking.{pairs_asked}
use Rattle.meaning.proofs.check.is_as_asked.Goals as goal

pub returns-in-Acyclic : goal.returns-in-Acyclic
returns-in-Acyclic c =
    let m = value_meaning c.args.value in
    subst⁻¹ (λ w. Decides c.is_acyclic.result (Asked w m)) c.in-Acyclic.is
    (pairs_asked acyclic c.is_acyclic.result (Related c.pairs_in.result.rows) (pairs_of m) c.pairs_in.ensures c.is_acyclic.ensures)
