use Rattle.std.proofs.Common.{◌-◌, arith}
use Rattle.run.specs.Tests.{table_run}
use Rattle.coherence.specs.Digits.{ways}
use Rattle.coherence.proofs.Told.{splitting_more, splitting_done}
use Rattle.coherence.proofs.numbers.split.Goals as goal

pub loop-location-preserved : goal.loop-location-preserved
loop-location-preserved c =
    splitting_more (ways (table_run c.args.events.now.events)) c.args.number c.loop-location.digits c.loop-location.rest c.loop-location.location (c.loop-location.location - 1) c.ways-radix.result
    c.loop-location.invariant (omega arith) (omega arith) c.ways-radix.ensures.value

pub returns : goal.returns
returns c =
    let t = splitting_done (ways (table_run c.args.events.now.events)) c.args.number c.loop-location.digits c.loop-location.rest c.loop-location.location c.loop-location.invariant (omega arith) in
    record { digits = t.0; rest = t.1 }
