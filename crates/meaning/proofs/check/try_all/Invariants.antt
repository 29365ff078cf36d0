use Rattle.std.proofs.Common.{map, take, length}
use Rattle.term.specs.Statements.{statements_of, claims}
use Rattle.given.specs.Bases.{base_meaning}
use Rattle.meaning.specs.Tables.{value_meaning}
use Rattle.meaning.specs.Outcomes.{Good, Tally}
use Rattle.meaning.proofs.check.try_all.Given as goal

abbrev pub invariant-loop-number : goal.invariant-loop-number
invariant-loop-number l = Tally (Good (base_meaning l.setting.base.now) (map value_meaning l.setting.known.now)) (take (length l.yielded) (claims (statements_of l.statements))) l.outcome
