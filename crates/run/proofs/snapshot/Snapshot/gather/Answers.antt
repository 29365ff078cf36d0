use Rattle.std.proofs.Common.{rules}
use Rattle.run.proofs.Gathering.{underway_found, underway_passed}
use Rattle.run.proofs.snapshot.Snapshot.gather.Goals as goal
use Rattle.run.proofs.snapshot.Snapshot.gather.Goals.{then-is_some_and, else-is_some_and}

pub loop-n-preserved : goal.loop-n-preserved
loop-n-preserved g c = elim c.if-is_some_and.branch [
  | then-is_some_and w ↦ underway_found _ _ c.loop-n.n c.loop-n.mask _ _ _ c.loop-n-test.true c.loop-n.invariant c.is_some_and.ensures (λ e h. search rules) w.if-is_some_and.true w.mask-is
  | else-is_some_and w ↦ underway_passed _ _ c.loop-n.n c.loop-n.mask _ _ _ c.loop-n-test.true c.loop-n.invariant c.is_some_and.ensures (λ e h. search rules) w.if-is_some_and.false w.mask-is
]
