use Rattle.term.proofs.Counting.{denied_other}
use Rattle.term.proofs.recursion.statement_denied.Goals as goal

pub returns-in_default : goal.returns-in_default
returns-in_default c = denied_other c.args.before c.args.statement.now c.in_default.not-Group
