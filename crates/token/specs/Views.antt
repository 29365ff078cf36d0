-- What the code's tokens and pieces stand for, without pointers. Assumes nothing.
use Rattle.std.specs.Prelude.{ℕ, length, Some, None, Option}
use Rattle.token.specs.declared.token.Token.{Token}
use Rattle.token.specs.declared.token.Token.TheVariants.{Name, Title, Let, Rec, And, Acyclic, Irreflexive, Empty, Flag, As, Universe, NoPairs, NoEvents, Inverse, Open, Close, OpenSquare, CloseSquare, Bar, Semicolon, Backslash, Ampersand, Star, Tilde, Plus, Question, Equals}
use Rattle.token.specs.declared.token.Lexeme.{Lexeme}
use Rattle.token.specs.declared.piece.Piece.{Piece}
use Rattle.token.specs.Tokens.{let_word, rec_word, and_word, acyclic_word, irreflexive_word, empty_word, flag_word, as_word, universe, no_pairs, no_events, inverse, open_round, close_round, open_square, close_square, bar, semicolon, backslash, ampersand, star, tilde, plus, question, equals, Word, name, title, key, sign, spelling}
use Rattle.token.specs.Lexing.{Item, blank, comment, token, spell}

abbrev pub view : Token → Word
view (Name bytes) = name bytes.now
view (Title bytes) = title bytes.now
view Let = key let_word
view Rec = key rec_word
view And = key and_word
view Acyclic = key acyclic_word
view Irreflexive = key irreflexive_word
view Empty = key empty_word
view Flag = key flag_word
view As = key as_word
view Universe = sign universe
view NoPairs = sign no_pairs
view NoEvents = sign no_events
view Inverse = sign inverse
view Open = sign open_round
view Close = sign close_round
view OpenSquare = sign open_square
view CloseSquare = sign close_square
view Bar = sign bar
view Semicolon = sign semicolon
view Backslash = sign backslash
view Ampersand = sign ampersand
view Star = sign star
view Tilde = sign tilde
view Plus = sign plus
view Question = sign question
view Equals = sign equals

-- a token beside its place
abbrev pub lexeme_view : Lexeme → ℕ × Word
lexeme_view l = (l.place, view l.token)

-- what a turn of the lexer makes of a stretch: how far it goes on, and with which token
pub data Part : Type 0 where
  gap : ℕ → Part
  word : Word → ℕ → Part
  wrong : Part

-- a token of so many bytes, if there is one
abbrev pub token_view : Option Token → ℕ → Part
token_view None n = wrong
token_view (Some t) n = word (view t) n

-- a stretch of so many bytes: without a token it is a gap
abbrev pub stretch_view : Option Token → ℕ → Part
stretch_view None n = gap n
stretch_view (Some t) n = word (view t) n

abbrev pub piece_view : Option Piece → Part
piece_view None = wrong
piece_view (Some p) = stretch_view p.token p.length

abbrev pub part : Item → Part
part (blank b) = gap (length (spell (blank b)))
part (comment inside) = gap (length (spell (comment inside)))
part (token w) = word w (length (spelling w))

abbrev pub parted : Option Item → Part
parted None = wrong
parted (Some i) = part i
