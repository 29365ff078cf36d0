use Rattle.std.proofs.Common.{◌-◌, length, vec_items}
use Rattle.sentence.proofs.Readings.{ReadingOn}
use Rattle.sentence.proofs.text.read.Given as goal

abbrev pub invariant-loop-at : goal.invariant-loop-at
invariant-loop-at l = ReadingOn l.sorts l.titled (vec_items l.statements) l.at

abbrev pub decreases-loop-at : goal.decreases-loop-at
decreases-loop-at l = length l.sorts - l.at
