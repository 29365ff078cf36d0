use Rattle.std.proofs.Common.{◌≡◌}
use Rattle.token.proofs.Walks.{Gathered}
use Rattle.token.proofs.lexer.gather.Given as goal

abbrev pub invariant-loop-piece : goal.invariant-loop-piece
invariant-loop-piece l =
    (goal.iterator-loop-piece).can_next l.piece-iterator
    × (goal.iterator-loop-piece).is_finite l.piece-iterator
    × (l.piece-iterator.text.now ≡ l.text)
    × Gathered l.text l.piece-iterator.at l.found.items
