use Rattle.std.proofs.Common.{None, arith}
use Rattle.std.proofs.lemmas.List.Folds.{length-flat_map-take}
use Rattle.record.specs.Writing.{call_bytes}
use Rattle.record.proofs.Pastes.{placed_none}
use Rattle.record.proofs.Written.{placed_more}
use Rattle.record.proofs.writer.put_all.Goals as goal

pub loop-call-init : goal.loop-call-init
loop-call-init c = placed_none c.args.out.now 0

pub put-at-requires : goal.put-at-requires
put-at-requires c = omega (arith, c.loop-call.invariant.behind, length-flat_map-take call_bytes c.args.calls.now c.loop-call.call-index None c.loop-call-test.true)

pub loop-call-preserved : goal.loop-call-preserved
loop-call-preserved c =
    placed_more c.args.out.now c.loop-call.out c.put-at.new.out c.args.calls.now c.loop-call.call-index c.loop-call.at c.put-at.result c.loop-call-test.true c.loop-call.invariant c.put-at.ensures
