use Rattle.std.proofs.Common.{◌≡◌, refl, ap, ◌∙◌, rules}
use Rattle.token.specs.Items.{titled}
use Rattle.token.specs.Views.{wrong, piece_view, parted}
use Rattle.token.proofs.Scans.{quote_is}
use Rattle.token.proofs.Parts.{title_part}
use Rattle.token.proofs.piece.title_piece.Goals as goal

pub returns-in_err-end : goal.returns-in_err-end
returns-in_err-end c =
    let none : piece_view c.from_residual.result ≡ wrong = search rules in
    none ∙ ap (λ o. parted (titled o c.args.behind.now)) (c.in_err-end.ensures ∙ quote_is c.args.behind.now)

pub returns : goal.returns
returns c = c.word.ensures ∙ title_part c.args.behind.now _ c.in_ok-end.end (c.in_ok-end.ensures ∙ quote_is c.args.behind.now) refl
