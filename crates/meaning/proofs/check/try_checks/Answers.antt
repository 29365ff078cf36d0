use Rattle.std.proofs.Common.{map}
use Rattle.term.specs.Statements.{statements_of}
use Rattle.given.specs.Bases.{base_meaning}
use Rattle.meaning.specs.Tables.{value_meaning}
use Rattle.meaning.specs.Outcomes.{Totalled}
use Rattle.meaning.proofs.Tallying.{judged}
use Rattle.meaning.proofs.check.try_checks.Goals as goal

pub returns : goal.returns
returns c =
    let ss = statements_of c.args.statements.now in
    let total : Totalled (base_meaning c.under.result.base.now) (map value_meaning c.under.result.known.now) ss c.try_all.result = c.try_all.ensures in
    judged c.args.base.now ss c.evaluate_bindings.new.values c.try_all.result c.evaluate_bindings.ensures (rw c.under.ensures.known at (rw c.under.ensures.base at total))
