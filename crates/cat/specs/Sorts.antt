-- The sorts of tokens, as the grammar takes them. Assumes nothing.
use Rattle.std.specs.Prelude.{ℕ, List, map}
use Rattle.token.specs.Tokens.{Reserved, let_word, rec_word, and_word, acyclic_word, irreflexive_word, empty_word, flag_word, as_word, Symbol, universe, no_pairs, no_events, inverse, open_round, close_round, open_square, close_square, bar, semicolon, backslash, ampersand, star, tilde, plus, question, equals, Word, name, title, key, sign}
use Rattle.sentence.specs.declared.sort.Sort.{Sort}
use Rattle.sentence.specs.declared.sort.Sort.TheVariants.{Name, Title, Let, Rec, And, Acyclic, Irreflexive, Empty, Flag, As, Universe, NoPairs, NoEvents, Inverse, Open, Close, OpenSquare, CloseSquare, Bar, Semicolon, Backslash, Ampersand, Star, Tilde, Plus, Question, Equals}

-- tokens, each with its place
abbrev pub Tokens : Type 0
Tokens = List (ℕ × Word)

-- the sort of a reserved word, of a symbol, of a token
abbrev pub key_sort : Reserved → Sort
key_sort let_word = Let
key_sort rec_word = Rec
key_sort and_word = And
key_sort acyclic_word = Acyclic
key_sort irreflexive_word = Irreflexive
key_sort empty_word = Empty
key_sort flag_word = Flag
key_sort as_word = As

abbrev pub sign_sort : Symbol → Sort
sign_sort universe = Universe
sign_sort no_pairs = NoPairs
sign_sort no_events = NoEvents
sign_sort inverse = Inverse
sign_sort open_round = Open
sign_sort close_round = Close
sign_sort open_square = OpenSquare
sign_sort close_square = CloseSquare
sign_sort bar = Bar
sign_sort semicolon = Semicolon
sign_sort backslash = Backslash
sign_sort ampersand = Ampersand
sign_sort star = Star
sign_sort tilde = Tilde
sign_sort plus = Plus
sign_sort question = Question
sign_sort equals = Equals

abbrev pub sort_of : Word → Sort
sort_of (name bytes) = Name
sort_of (title bytes) = Title
sort_of (key k) = key_sort k
sort_of (sign s) = sign_sort s

-- the sorts of tokens
abbrev pub sorts_of : Tokens → List Sort
sorts_of found = map (λ t. sort_of t.1) found
