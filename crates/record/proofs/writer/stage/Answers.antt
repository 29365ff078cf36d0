use Rattle.std.proofs.Common.{◌+◌, sym, subst}
use Rattle.run.specs.Tests.{table_run}
use Rattle.record.proofs.Fields.{Filling, filling_start, filling_none, filling_some}
use Rattle.record.proofs.writer.stage.Goals as goal
use Rattle.record.proofs.writer.stage.Goals.{in-Some, in_default}

pub loop-n-init : goal.loop-n-init
loop-n-init g c = filling_start (goal.F-post g c.args.call_of) (table_run c.args.table.now.events)

pub loop-n-preserved : goal.loop-n-preserved
loop-n-preserved g c =
    let gives = goal.F-post g c.args.call_of in
    let run = table_run c.args.table.now.events in
    let n = c.loop-n.n in
    elim c.match-table-n.branch [
      | in-Some w ↦ subst (Filling gives run (n + 1)) (sym w.calls-is) (filling_some gives run n c.loop-n.calls c.loop-n.invariant w.in-Some.event w.call_of.result c.loop-n-test.true w.in-Some.is w.call_of.ensures)
      | in_default w ↦ subst (Filling gives run (n + 1)) (sym w.calls-is) (filling_none gives run n c.loop-n.calls c.loop-n.invariant w.in_default.not-Some)
    ]
