use Rattle.bench.specs.Benches.{bench_run}
use Rattle.record.specs.Left.{left}
use Rattle.record.specs.Reading.{calls_of}
use Rattle.record.proofs.Walks.{Replaying}
use Rattle.record.proofs.read.replay.Given as goal

abbrev pub invariant-loop-place : goal.invariant-loop-place
invariant-loop-place l =
    (goal.iterator-loop-place).can_next l.place-iterator
    × (goal.iterator-loop-place).is_finite l.place-iterator
    × Replaying (calls_of l.bytes) (bench_run l.initial.bench) (left l.place-iterator) (bench_run l.bench)
