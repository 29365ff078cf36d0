use Rattle.cat.proofs.Once.{one_reading}
use Rattle.cat.proofs.model.Model.read.Goals as goal

pub returns-in_err-parse-clause-one : goal.returns-in_err-parse-clause-one
returns-in_err-parse-clause-one c = one_reading c.args.text.now

pub returns-clause-one : goal.returns-clause-one
returns-clause-one c = one_reading c.args.text.now
