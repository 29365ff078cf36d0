-- What begins a text, as the code finds it. proofs/ ties it to the stretches of a text. Assumes nothing.
use Rattle.std.specs.Prelude.{◌≡◌, ℕ, zero, suc, ◌+◌, Bool, cond, ◌&&◌, List, [], ◌∷◌, ◌++◌, length, take, drop, Some, None, Option, ◌==◌, nat_le, slice_index}
use Rattle.std.specs.Str.{bytes_eq}
use Rattle.token.specs.Classes.{class}
use Rattle.token.specs.Tokens.{let_word, rec_word, and_word, acyclic_word, irreflexive_word, empty_word, flag_word, as_word, Symbol, universe, no_pairs, no_events, inverse, open_round, close_round, open_square, close_square, bar, semicolon, backslash, ampersand, star, tilde, plus, question, equals, Word, name, title, key, sign, keyword}
use Rattle.token.specs.Lexing.{Item, blank, comment, token, spell, tokens, Lexes}

-- classes 2 to 4
abbrev pub goes_on : ℕ → Bool
goes_on b = nat_le 2 (class b) && nat_le (class b) 4

-- where the bytes of classes 2 to 4 end that stand here, counted from a place
unfoldable pub run : ℕ → List ℕ → ℕ
run at [] = at
run at (b ∷ rest) = cond (goes_on b) (run (at + 1) rest) at

-- where the next quote stands
unfoldable pub quote_from : ℕ → List ℕ → Option ℕ
quote_from at [] = None
quote_from at (b ∷ rest) = cond (b == 34) (Some at) (quote_from (at + 1) rest)

-- where the next `*)` stands
unfoldable pub end_from : ℕ → List ℕ → Option ℕ
end_from at [] = None
end_from at (b ∷ rest) = cond (b == 42 && slice_index rest 0 == 41) (Some at) (end_from (at + 1) rest)

-- a reserved word, or a name
unfoldable pub word_of : List ℕ → Word
word_of bytes =
    cond (bytes_eq bytes (keyword let_word)) (key let_word)
    (cond (bytes_eq bytes (keyword rec_word)) (key rec_word)
    (cond (bytes_eq bytes (keyword and_word)) (key and_word)
    (cond (bytes_eq bytes (keyword acyclic_word)) (key acyclic_word)
    (cond (bytes_eq bytes (keyword irreflexive_word)) (key irreflexive_word)
    (cond (bytes_eq bytes (keyword empty_word)) (key empty_word)
    (cond (bytes_eq bytes (keyword flag_word)) (key flag_word) (cond (bytes_eq bytes (keyword as_word)) (key as_word) (name bytes))))))))

-- the title up to a quote, the comment up to an end
abbrev pub titled : Option ℕ → List ℕ → Option Item
titled None rest = None
titled (Some k) rest = Some (token (title (take k rest)))

abbrev pub commented : Option ℕ → List ℕ → Option Item
commented None rest = None
commented (Some k) rest = Some (comment (take k rest))

-- the token of a sign, if the test holds
abbrev pub when : Bool → Symbol → Option Item
when b s = cond b (Some (token (sign s))) None

-- the token of a single sign
unfoldable pub single : ℕ → Option Item
single b =
    cond (b == 41) (Some (token (sign close_round)))
    (cond (b == 91) (Some (token (sign open_square)))
    (cond (b == 93) (Some (token (sign close_square)))
    (cond (b == 124) (Some (token (sign bar)))
    (cond (b == 59) (Some (token (sign semicolon)))
    (cond (b == 92) (Some (token (sign backslash)))
    (cond (b == 38) (Some (token (sign ampersand)))
    (cond (b == 42) (Some (token (sign star)))
    (cond (b == 126) (Some (token (sign tilde)))
    (cond (b == 43) (Some (token (sign plus)))
    (cond (b == 63) (Some (token (sign question))) (when (b == 61) equals)))))))))))

-- what begins at a `(`
unfoldable pub opened : List ℕ → Option Item
opened rest = cond (slice_index rest 0 == 42) (commented (end_from 0 (drop 1 rest)) (drop 1 rest)) (Some (token (sign open_round)))

-- what begins with a sign
unfoldable pub signed : ℕ → List ℕ → Option Item
signed b rest =
    cond (b == 34) (titled (quote_from 0 rest) rest)
    (cond (b == 40) (opened rest)
    (cond (b == 123) (when (slice_index rest 0 == 125) no_events)
    (cond (b == 94) (when (slice_index rest 0 == 45 && slice_index rest 1 == 49) inverse) (single b))))

-- what begins with a byte of a class
unfoldable pub begun : ℕ → ℕ → List ℕ → Option Item
begun c b rest =
    cond (c == 1) (Some (blank b))
    (cond (c == 2) (Some (token (word_of (take (run 0 (b ∷ rest)) (b ∷ rest)))))
    (cond (c == 3) (when (b == 48) no_pairs) (cond (c == 4) (when (b == 95) universe) (cond (c == 5) (signed b rest) None))))

-- what begins the rest of a text
abbrev pub item_of : List ℕ → Option Item
item_of [] = None
item_of (b ∷ rest) = begun (class b) b rest

-- tokens before those that follow, if what follows lexes
abbrev pub ahead : List (ℕ × Word) → Option (List (ℕ × Word)) → Option (List (ℕ × Word))
ahead found None = None
ahead found (Some more) = Some (found ++ more)

-- goes on behind a stretch
abbrev pub onward : Option Item → (Item → Option (List (ℕ × Word))) → Option (List (ℕ × Word))
onward None next = None
onward (Some i) next = next i

-- the tokens of a text that begins at a place, if it lexes, in a number of turns
unfoldable pub lexed : ℕ → ℕ → List ℕ → Option (List (ℕ × Word))
lexed turns at [] = Some []
lexed zero at (b ∷ rest) = None
lexed (suc turns) at (b ∷ rest) =
    onward (item_of (b ∷ rest)) (λ i. ahead (tokens at (i ∷ [])) (lexed turns (at + length (spell i)) (drop (length (spell i)) (b ∷ rest))))

-- it finds exactly the tokens of the text
abbrev pub Computed : List ℕ → Type 0
Computed text = (found : List (ℕ × Word)) → (Lexes text found → lexed (length text) 0 text ≡ Some found) × (lexed (length text) 0 text ≡ Some found → Lexes text found)
