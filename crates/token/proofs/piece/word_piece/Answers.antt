use Rattle.std.proofs.Common.{length, unwrap_or, refl, ap, ◌∙◌}
use Rattle.token.proofs.Scans.{run_is}
use Rattle.token.proofs.Parts.{word_part}
use Rattle.token.proofs.piece.word_piece.Goals as goal

pub returns : goal.returns
returns c =
    c.word.ensures
    ∙ word_part c.args.text.now _ c.unwrap_or-length.result _ (c.unwrap_or-length.ensures ∙ ap (λ o. unwrap_or o (length c.args.text.now)) c.name_end.ensures ∙ run_is c.args.text.now) refl c.word_of.ensures
