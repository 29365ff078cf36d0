use Rattle.bench.proofs.Orderly.{nothing_tested}
use Rattle.bench.proofs.bench.Bench.new.Goals as goal

pub invariant_of-result : goal.invariant_of-result
invariant_of-result c = let t = nothing_tested _ c.empty.ensures in record { ranges = t.ranges; steps = t.steps; initials = t.initials; sources = t.sources; settlings = t.settlings }
