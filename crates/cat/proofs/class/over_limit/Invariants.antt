use Rattle.cat.proofs.Counting.{Counting}
use Rattle.cat.proofs.class.over_limit.Given as goal

abbrev pub invariant-loop-at : goal.invariant-loop-at
invariant-loop-at l = Counting l.sorts l.at l.tally
