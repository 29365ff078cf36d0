use Rattle.term.specs.Statements.{claim_of}
use Rattle.meaning.proofs.Asking.{good_asked}
use Rattle.meaning.proofs.check.holds.Goals as goal

pub returns : goal.returns
returns c = good_asked _ _ (claim_of c.args.check.now) c.evaluate.result c.is_as_asked-asked.result c.evaluate.ensures c.is_as_asked-asked.ensures
