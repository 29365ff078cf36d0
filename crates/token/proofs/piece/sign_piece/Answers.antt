use Rattle.std.proofs.Common.{◌≡◌, sym, ap, ◌∙◌, arith, rules}
use Rattle.std.proofs.lemmas.Bool.Decides.{nat_tests}
use Rattle.token.specs.Items.{single, signed}
use Rattle.token.specs.Views.{wrong, piece_view, parted}
use Rattle.token.proofs.piece.sign_piece.Goals as goal

pub returns-in-34 : goal.returns-in-34
unfolding signed
returns-in-34 c = c.title_piece.ensures ∙ sym (ap (λ b. parted (signed b c.args.behind.now)) c.in-34.is)

pub returns-in-40 : goal.returns-in-40
unfolding signed
returns-in-40 c = c.open_piece.ensures ∙ sym (ap (λ b. parted (signed b c.args.behind.now)) c.in-40.is)

pub returns-in-123 : goal.returns-in-123
unfolding signed
returns-in-123 c = c.brace_piece.ensures ∙ sym (ap (λ b. parted (signed b c.args.behind.now)) c.in-123.is)

pub returns-in-94 : goal.returns-in-94
unfolding signed
returns-in-94 c = c.caret_piece.ensures ∙ sym (ap (λ b. parted (signed b c.args.behind.now)) c.in-94.is)

pub returns-in_err-single-in_default : goal.returns-in_err-single-in_default
unfolding signed
returns-in_err-single-in_default c =
    let none : piece_view c.from_residual.result ≡ wrong = search rules in
    let same : parted (single c.args.byte) ≡ parted (signed c.args.byte c.args.behind.now) = grind (arith, nat_tests) in
    none ∙ c.in_err-single-in_default.ensures ∙ same

pub returns-in_ok-single-in_default : goal.returns-in_ok-single-in_default
unfolding signed
returns-in_ok-single-in_default c =
    let same : parted (single c.args.byte) ≡ parted (signed c.args.byte c.args.behind.now) = grind (arith, nat_tests) in
    c.word.ensures ∙ c.in_ok-single-in_default.ensures ∙ same
