use Rattle.std.proofs.Common.{[], ◌∷◌, Some, None, ◌∙◌}
use Rattle.std.proofs.lemmas.Bool.Decides.{Decides-eqb}
use Rattle.std.proofs.lemmas.Slice.Eq.{strip_prefix_is}
use Rattle.token.proofs.Parts.{open_comment, open_part}
use Rattle.token.proofs.piece.open_piece.Goals as goal

pub returns-in-Some : goal.returns-in-Some
returns-in-Some c =
    c.comment_piece.ensures ∙ open_comment c.args.behind.now c.in-Some.inside.now (strip_prefix_is Decides-eqb c.args.behind.now (42 ∷ []) (Some c.in-Some.inside) c.in-Some.ensures.cases)

pub returns-in-None : goal.returns-in-None
returns-in-None c = c.word.ensures ∙ open_part c.args.behind.now (strip_prefix_is Decides-eqb c.args.behind.now (42 ∷ []) None c.in-None.ensures.cases)
