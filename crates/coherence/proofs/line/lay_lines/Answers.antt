use Rattle.std.proofs.Common.{refl}
use Rattle.run.specs.Tests.{table_run}
use Rattle.coherence.specs.Laying.{rows_at}
use Rattle.coherence.proofs.Laying.{rows_more}
use Rattle.coherence.proofs.line.lay_lines.Goals as goal

pub loop-location-init : goal.loop-location-init
unfolding rows_at
loop-location-init c = refl

pub loop-location-preserved : goal.loop-location-preserved
loop-location-preserved c =
    rows_more (table_run c.args.events.now.events) c.args.digits.now c.loop-location.order.rows c.lay_line.new.order.rows c.loop-location.location c.loop-location.invariant c.lay_line.ensures
