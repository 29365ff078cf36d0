use Rattle.std.proofs.Common.{take}
use Rattle.std.specs.List.{flat_map}
use Rattle.record.specs.Writing.{call_bytes, Placed}
use Rattle.record.proofs.writer.put_all.Given as goal

abbrev pub invariant-loop-call : goal.invariant-loop-call
invariant-loop-call l = Placed l.initial.out 0 (flat_map call_bytes (take l.call-index l.calls)) l.at l.out
