use Rattle.std.proofs.Common.{ap, ◌∙◌}
use Rattle.token.specs.Items.{begun}
use Rattle.token.specs.Tokens.{no_pairs, universe}
use Rattle.token.specs.Views.{piece_view, parted}
use Rattle.token.proofs.Parts.{begun_at, word_begun, when_part}
use Rattle.token.proofs.piece.piece_of.Goals as goal

pub returns-in-Other : goal.returns-in-Other
unfolding begun
returns-in-Other c = ap parted (begun_at c.args.text.now _ _ 0 c.in_ok-byte.ensures.cases.0 c.in-Other.ensures.value)

pub returns-in-Blank : goal.returns-in-Blank
unfolding begun
returns-in-Blank c = c.gap.ensures ∙ ap parted (begun_at c.args.text.now _ _ 1 c.in_ok-byte.ensures.cases.0 c.in-Blank.ensures.value)

pub returns-in-Letter : goal.returns-in-Letter
returns-in-Letter c = c.word_piece.ensures ∙ ap parted (word_begun c.args.text.now _ _ c.in_ok-byte.ensures.cases.0 c.in-Letter.ensures.value)

pub returns-in-Digit : goal.returns-in-Digit
unfolding begun
returns-in-Digit c =
    ap piece_view c.then_some.ensures ∙ when_part no_pairs _ c.word.result c.word.ensures
    ∙ ap parted (begun_at c.args.text.now _ _ 3 c.in_ok-byte.ensures.cases.0 c.in-Digit.ensures.value)

pub returns-in-Mark : goal.returns-in-Mark
unfolding begun
returns-in-Mark c =
    ap piece_view c.then_some-in-Mark.ensures ∙ when_part universe _ c.word-in-Mark.result c.word-in-Mark.ensures
    ∙ ap parted (begun_at c.args.text.now _ _ 4 c.in_ok-byte.ensures.cases.0 c.in-Mark.ensures.value)

pub returns-in-Sign : goal.returns-in-Sign
unfolding begun
returns-in-Sign c = c.sign_piece.ensures ∙ ap parted (begun_at c.args.text.now _ _ 5 c.in_ok-byte.ensures.cases.0 c.in-Sign.ensures.value)
