use Rattle.coherence.proofs.Caps.{table_right}
use Rattle.coherence.proofs.factorials.factorial.Goals as goal

pub returns-clause-value : goal.returns-clause-value
returns-clause-value c = table_right c.args.number _ c.min.ensures
