use Rattle.std.proofs.Common.{◌∙◌, rules}
use Rattle.token.proofs.Parts.{end_within, comment_part}
use Rattle.token.proofs.piece.comment_piece.Goals as goal

pub overflow_add-end : goal.overflow_add-end
overflow_add-end c = let h = end_within c.args.behind.now c.in_ok-end.end c.in_ok-end.ensures in search rules

pub returns : goal.returns
returns c = c.gap.ensures ∙ comment_part c.args.behind.now c.in_ok-end.end c.in_ok-end.ensures
