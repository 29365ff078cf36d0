use Rattle.token.specs.Tokens.{let_word, rec_word, and_word, acyclic_word, irreflexive_word, empty_word, flag_word, as_word}
use Rattle.token.proofs.Begins.{word_is, word_none}
use Rattle.token.proofs.piece.word_of.Goals as goal

pub returns-then-is : goal.returns-then-is
returns-then-is c = word_is c.args.bytes.now let_word c.if-is.ensures

pub returns-then-is-2 : goal.returns-then-is-2
returns-then-is-2 c = word_is c.args.bytes.now rec_word c.if-is-2.ensures

pub returns-then-is-3 : goal.returns-then-is-3
returns-then-is-3 c = word_is c.args.bytes.now and_word c.if-is-3.ensures

pub returns-then-is-4 : goal.returns-then-is-4
returns-then-is-4 c = word_is c.args.bytes.now acyclic_word c.if-is-4.ensures

pub returns-then-is-5 : goal.returns-then-is-5
returns-then-is-5 c = word_is c.args.bytes.now irreflexive_word c.if-is-5.ensures

pub returns-then-is-6 : goal.returns-then-is-6
returns-then-is-6 c = word_is c.args.bytes.now empty_word c.if-is-6.ensures

pub returns-then-is-7 : goal.returns-then-is-7
returns-then-is-7 c = word_is c.args.bytes.now flag_word c.if-is-7.ensures

pub returns-then-is-8 : goal.returns-then-is-8
returns-then-is-8 c = word_is c.args.bytes.now as_word c.if-is-8.ensures

pub returns-else-is-8 : goal.returns-else-is-8
returns-else-is-8 c =
    word_none c.args.bytes.now c.if-is.ensures c.if-is-2.ensures c.if-is-3.ensures c.if-is-4.ensures c.if-is-5.ensures c.if-is-6.ensures c.if-is-7.ensures
    c.if-is-8.ensures
