use Rattle.bench.proofs.Orderly.{nothing_tested}
use Rattle.bench.proofs.bench.Bench.clear.Goals as goal

pub invariant_of-self : goal.invariant_of-self
invariant_of-self c = let t = nothing_tested _ c.empty-self.ensures in record { ranges = t.ranges; steps = t.steps; initials = t.initials; sources = t.sources; settlings = t.settlings }
