-- Walking through a text, stretch by stretch. Assumes nothing.
use Rattle.std.proofs.Common.{◌≡◌, ℕ, suc, ◌+◌, ◌<◌, ◌≤◌, List, [], ◌∷◌, ◌++◌, map, length, drop, Some, None, Option, sym, refl, ap, ◌∙◌, subst, inl, inr, append-nil, arith, length-append, length-drop}
use Rattle.std.proofs.lemmas.List.{drop-drop, drop_at, map-append}
use Rattle.token.specs.declared.token.Lexeme.{Lexeme}
use Rattle.token.specs.Tokens.{Reserved, let_word, rec_word, and_word, acyclic_word, irreflexive_word, empty_word, flag_word, as_word, Symbol, universe, no_pairs, no_events, inverse, open_round, close_round, open_square, close_square, bar, semicolon, backslash, ampersand, star, tilde, plus, question, equals, Word, name, title, key, sign, keyword, symbol, spelling}
use Rattle.token.specs.Lexing.{Item, blank, comment, token, spell, spelled, Proper, Reads, tokens, Strays}
use Rattle.token.specs.Items.{item_of}
use Rattle.token.specs.Views.{gap, word, wrong, parted, lexeme_view}
use Rattle.token.proofs.Never.{no_way}
use Rattle.token.proofs.Begins.{stands_found, found_stands}

-- every stretch has a byte
key_some : (k : Reserved) → 0 < length (keyword k)
key_some let_word = omega arith
key_some rec_word = omega arith
key_some and_word = omega arith
key_some acyclic_word = omega arith
key_some irreflexive_word = omega arith
key_some empty_word = omega arith
key_some flag_word = omega arith
key_some as_word = omega arith

sign_some : (s : Symbol) → 0 < length (symbol s)
sign_some universe = omega arith
sign_some no_pairs = omega arith
sign_some no_events = omega arith
sign_some inverse = omega arith
sign_some open_round = omega arith
sign_some close_round = omega arith
sign_some open_square = omega arith
sign_some close_square = omega arith
sign_some bar = omega arith
sign_some semicolon = omega arith
sign_some backslash = omega arith
sign_some ampersand = omega arith
sign_some star = omega arith
sign_some tilde = omega arith
sign_some plus = omega arith
sign_some question = omega arith
sign_some equals = omega arith

pub spell_some : (i : Item) (more : List ℕ) → Proper i more → 0 < length (spell i)
spell_some (blank b) more h = omega arith
spell_some (comment inside) more h = omega arith
spell_some (token (name [])) more h = elim h.0.first [ inl l ↦ absurd (omega arith) | inr l ↦ absurd (omega arith) ]
spell_some (token (name (b ∷ bytes))) more h = omega arith
spell_some (token (title bytes)) more h = omega arith
spell_some (token (key k)) more h = key_some k
spell_some (token (sign s)) more h = sign_some s

-- the stretches so far, and one more
pub reads_more : (text : List ℕ) (items : List Item) (rest : List ℕ) (i : Item) (more : List ℕ) → Reads text items rest → rest ≡ spell i ++ more → Proper i more → Reads text (items ++ (i ∷ [])) more
reads_more text [] rest i more r e p = (more, r ∙ e, p, refl)
reads_more text (j ∷ items) rest i more (m, is, q, r) e p = (m, is, q, reads_more m items rest i more r e p)

spelled_more : (items : List Item) (i : Item) → length (spelled (items ++ (i ∷ []))) ≡ length (spelled items) + length (spell i)
spelled_more [] i = length-append (spell i) [] ∙ (let z : length (spell i) + 0 ≡ 0 + length (spell i) = omega arith in z)
spelled_more (j ∷ items) i =
    let h = spelled_more items i in
    omega (arith, length-append (spell j) (spelled (items ++ (i ∷ []))), length-append (spell j) (spelled items))

-- the tokens of stretches that follow others
pub tokens_after : (items others : List Item) (at : ℕ) → tokens at (items ++ others) ≡ tokens at items ++ tokens (at + length (spelled items)) others
tokens_after [] others at = ap (λ n. tokens n others) (let z : at ≡ at + 0 = omega arith in z)
tokens_after (blank b ∷ items) others at =
    tokens_after items others (at + 1)
    ∙ ap (λ n. tokens (at + 1) items ++ tokens n others) (let z : at + 1 + length (spelled items) ≡ at + suc (length (spelled items)) = omega arith in z)
tokens_after (comment inside ∷ items) others at =
    let long = length (spell (comment inside)) in
    tokens_after items others (at + long)
    ∙ ap (λ n. tokens (at + long) items ++ tokens n others)
    (let z : at + long + length (spelled items) ≡ at + length (spelled (comment inside ∷ items)) = omega (arith, length-append (spell (comment inside)) (spelled items)) in z)
tokens_after (token w ∷ items) others at =
    let long = length (spelling w) in
    ap (λ l. (at, w) ∷ l)
    (tokens_after items others (at + long)
    ∙ ap (λ n. tokens (at + long) items ++ tokens n others)
    (let z : at + long + length (spelled items) ≡ at + length (spelled (token w ∷ items)) = omega (arith, length-append (spelling w) (spelled items)) in z))

-- how far a walk has come, and which tokens it has met
pub record Walked (text : List ℕ) (at : ℕ) (found : List (ℕ × Word)) : Type 0 where
  pub items : List Item
  pub inside : at ≤ length text
  pub reads : Reads text items (drop at text)
  pub here : at ≡ length (spelled items)
  pub are : found ≡ tokens 0 items

-- a stretch that was found at a place
pub record Onward (text : List ℕ) (at : ℕ) (found : List (ℕ × Word)) (n : ℕ) : Type 0 where
  pub some : 0 < n
  pub inside : at + n ≤ length text
  pub walks : Walked text (at + n) found

walked_more : (text : List ℕ) (at : ℕ) (found : List (ℕ × Word)) (i : Item) → Walked text at found → item_of (drop at text) ≡ Some i → Onward text at (found ++ tokens at (i ∷ [])) (length (spell i))
walked_more text at found i w h = go (found_stands (drop at text) i h)
  where
    go : ((more : List ℕ) × (drop at text ≡ spell i ++ more) × Proper i more) → Onward text at (found ++ tokens at (i ∷ [])) (length (spell i))
    go (more, is, p) =
        let some = spell_some i more p in
        let inside : at + length (spell i) ≤ length text = omega (arith, w.inside, ap length is, length-append (spell i) more, length-drop at text) in
        let rest : drop (at + length (spell i)) text ≡ more = sym (drop-drop (length (spell i)) at text) ∙ ap (drop (length (spell i))) is ∙ drop_at (spell i) more _ refl in
        record {
          some = some;
          inside = inside;
          walks =
              record {
                items = w.items ++ (i ∷ []);
                inside = inside;
                reads = subst (Reads text (w.items ++ (i ∷ []))) (sym rest) (reads_more text w.items (drop at text) i more w.reads is p);
                here = ap (λ n. n + length (spell i)) w.here ∙ sym (spelled_more w.items i);
                are =
                    ap (λ l. l ++ tokens at (i ∷ [])) w.are ∙ ap (λ n. tokens 0 w.items ++ tokens n (i ∷ [])) (w.here ∙ (let z : length (spelled w.items) ≡ 0 + length (spelled w.items) = omega arith in z))
                    ∙ sym (tokens_after w.items (i ∷ []) 0);
              };
        }

-- a gap leads on with no token
pub walked_gap : (text : List ℕ) (at : ℕ) (found : List (ℕ × Word)) (n : ℕ) → Walked text at found → gap n ≡ parted (item_of (drop at text)) → Onward text at found n
walked_gap text at found n w h = go (item_of (drop at text)) refl h
  where
    go : (o : Option Item) → item_of (drop at text) ≡ o → gap n ≡ parted o → Onward text at found n
    go None e h = no_way cc
    go (Some (blank b)) e h =
        let z : 1 ≡ n = cc in
        subst (Onward text at found) z (subst (λ l. Onward text at l 1) (append-nil found) (walked_more text at found (blank b) w e))
    go (Some (comment inside)) e h =
        let z : length (spell (comment inside)) ≡ n = cc in
        subst (Onward text at found) z (subst (λ l. Onward text at l (length (spell (comment inside)))) (append-nil found) (walked_more text at found (comment inside) w e))
    go (Some (token v)) e h = no_way cc

-- a token leads on, and stands at its place
pub word_found : (o : Option Item) (v : Word) (n : ℕ) → word v n ≡ parted o → (o ≡ Some (token v)) × (length (spelling v) ≡ n)
word_found None v n h = no_way cc
word_found (Some (blank b)) v n h = no_way cc
word_found (Some (comment inside)) v n h = no_way cc
word_found (Some (token w)) v n h =
    let same : w ≡ v = cc in
    let long : length (spelling w) ≡ n = cc in
    (ap (λ x. Some (token x)) same, ap (λ x. length (spelling x)) (sym same) ∙ long)

pub walked_word : (text : List ℕ) (at : ℕ) (found : List (ℕ × Word)) (v : Word) (n : ℕ) → Walked text at found → word v n ≡ parted (item_of (drop at text)) → Onward text at (found ++ ((at, v) ∷ [])) n
walked_word text at found v n w h =
    let f = word_found (item_of (drop at text)) v n h in
    subst (Onward text at (found ++ ((at, v) ∷ []))) f.1 (walked_more text at found (token v) w f.0)

-- where nothing is found, nothing begins
none_begins : (rest : List ℕ) → item_of rest ≡ None → (i : Item) (more : List ℕ) → rest ≡ spell i ++ more → Proper i more → ⊥
none_begins rest h i more e p = no_way (let z : None ≡ Some i = sym h ∙ ap item_of e ∙ stands_found i more p in cc)

wrong_none : (o : Option Item) → wrong ≡ parted o → o ≡ None
wrong_none None h = refl
wrong_none (Some (blank b)) h = no_way cc
wrong_none (Some (comment inside)) h = no_way cc
wrong_none (Some (token v)) h = no_way cc

pub walked_wrong : (text : List ℕ) (at : ℕ) (found : List (ℕ × Word)) → Walked text at found → at < length text → wrong ≡ parted (item_of (drop at text)) → Strays text at
walked_wrong text at found w l h =
    record {
      items = w.items;
      rest = drop at text;
      reads = w.reads;
      stuck = record { some = λ e. omega (arith, ap length e, length-drop at text); none = none_begins (drop at text) (wrong_none (item_of (drop at text)) h) };
      here = w.here;
    }

-- a walk whose tokens are not kept
pub record Reached (text : List ℕ) (at : ℕ) : Type 0 where
  pub found : List (ℕ × Word)
  pub walks : Walked text at found

-- a walk whose tokens are kept, at most 1,024
pub record Gathered (text : List ℕ) (at : ℕ) (lexemes : List Lexeme) : Type 0 where
  pub walks : Walked text at (map lexeme_view lexemes)
  pub few : length lexemes ≤ 1024

-- one turn that keeps its token: the list of lexemes after it
pub gathered_word : (text : List ℕ) (at : ℕ) (lexemes after : List Lexeme) (l : Lexeme) (n : ℕ) → Gathered text at lexemes → (length lexemes ≡ 1024 → ⊥) → after ≡ lexemes ++ (l ∷ []) → l.place ≡ at →
    word (lexeme_view l).1 n ≡ parted (item_of (drop at text)) → Gathered text (at + n) after
gathered_word text at lexemes after l n g room is here h =
    let on = walked_word text at (map lexeme_view lexemes) (lexeme_view l).1 n g.walks h in
    let same : map lexeme_view lexemes ++ ((at, (lexeme_view l).1) ∷ []) ≡ map lexeme_view after =
    ap (λ p. map lexeme_view lexemes ++ ((p, (lexeme_view l).1) ∷ [])) (sym here) ∙ sym (map-append lexeme_view lexemes (l ∷ [])) ∙ ap (map lexeme_view) (sym is) in
    record {
      walks = subst (Walked text (at + n)) same on.walks;
      few = omega (arith, g.few, ap length is, length-append lexemes (l ∷ []), room);
    }
