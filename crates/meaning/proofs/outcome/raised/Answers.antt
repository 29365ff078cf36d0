use Rattle.meaning.proofs.Tallying.{raised_up}
use Rattle.meaning.proofs.outcome.raised.Goals as goal

pub returns-then-up : goal.returns-then-up
returns-then-up c = raised_up c.args.flags c.args.number c.args.up c.requires c.if-up.true c.union.ensures
