-- Tokens: what they are and how they are written. Assumes nothing.
use Rattle.std.specs.Prelude.{ℕ, List, ◌++◌, codes}

-- the eight reserved words
pub data Reserved : Type 0 where
  let_word : Reserved
  rec_word : Reserved
  and_word : Reserved
  acyclic_word : Reserved
  irreflexive_word : Reserved
  empty_word : Reserved
  flag_word : Reserved
  as_word : Reserved

-- the tokens that are written with signs, `_` or `0`
pub data Symbol : Type 0 where
  universe : Symbol
  no_pairs : Symbol
  no_events : Symbol
  inverse : Symbol
  open_round : Symbol
  close_round : Symbol
  open_square : Symbol
  close_square : Symbol
  bar : Symbol
  semicolon : Symbol
  backslash : Symbol
  ampersand : Symbol
  star : Symbol
  tilde : Symbol
  plus : Symbol
  question : Symbol
  equals : Symbol

-- a token: a name by its bytes, a title by the bytes between its quotes, a reserved word, or a symbol
pub data Word : Type 0 where
  name : List ℕ → Word
  title : List ℕ → Word
  key : Reserved → Word
  sign : Symbol → Word

-- how a reserved word is written
abbrev pub keyword : Reserved → List ℕ
keyword let_word = codes "let"
keyword rec_word = codes "rec"
keyword and_word = codes "and"
keyword acyclic_word = codes "acyclic"
keyword irreflexive_word = codes "irreflexive"
keyword empty_word = codes "empty"
keyword flag_word = codes "flag"
keyword as_word = codes "as"

-- how a symbol is written
abbrev pub symbol : Symbol → List ℕ
symbol universe = codes "_"
symbol no_pairs = codes "0"
symbol no_events = codes "{}"
symbol inverse = codes "^-1"
symbol open_round = codes "("
symbol close_round = codes ")"
symbol open_square = codes "["
symbol close_square = codes "]"
symbol bar = codes "|"
symbol semicolon = codes ";"
symbol backslash = codes "\\"
symbol ampersand = codes "&"
symbol star = codes "*"
symbol tilde = codes "~"
symbol plus = codes "+"
symbol question = codes "?"
symbol equals = codes "="

-- the bytes by which a token is written: a title between two quotes
abbrev pub spelling : Word → List ℕ
spelling (name bytes) = bytes
spelling (title bytes) = codes "\"" ++ (bytes ++ codes "\"")
spelling (key k) = keyword k
spelling (sign s) = symbol s
