use Rattle.coherence.specs.Masks.{laid, left_of}
use Rattle.coherence.specs.Laying.{mask_row}
use Rattle.coherence.proofs.Laying.{Underway}
use Rattle.coherence.proofs.line.lay.Given as goal

abbrev pub invariant-loop-others : goal.invariant-loop-others
invariant-loop-others l =
    Underway (laid l.initial.order.rows l.initial.rest (mask_row l.initial.group l.initial.digit)) (left_of l.initial.rest (mask_row l.initial.group l.initial.digit))
    l.order.rows l.rest l.group l.digit l.others
