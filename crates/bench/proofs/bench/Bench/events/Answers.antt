use Rattle.bench.proofs.Orderly.{orderly}
use Rattle.bench.proofs.bench.Bench.events.Goals as goal

pub returns-clause-kept : goal.returns-clause-kept
returns-clause-kept c =
    let b = c.args.self.now in
    orderly _ (record { ranges = b.ranges; steps = b.steps; initials = b.initials; sources = b.sources; settlings = b.settlings })
