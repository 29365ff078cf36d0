-- A walk from piece to piece, and one that keeps the tokens that it meets. Assumes nothing.
use Rattle.std.proofs.Common.{◌≡◌, ℕ, ◌+◌, ◌<◌, ◌≤◌, List, [], ◌∷◌, ◌++◌, map, length, drop, Some, None, Ok, Err, Option, Result, sym, refl, ap, ◌∙◌, subst, append_assoc, append-nil, arith, length-drop}
use lib.ListN.{length-map}
use Rattle.token.specs.declared.token.Token.{Token}
use Rattle.token.specs.declared.token.Lexeme.{Lexeme}
use Rattle.token.specs.declared.piece.Piece.{Piece}
use Rattle.token.specs.declared.pieces.Pieces.{Pieces}
use Rattle.token.specs.declared.fault.ReadFault.{ReadFault}
use Rattle.token.specs.Tokens.{Word}
use Rattle.token.specs.Lexing.{spelled, tokens}
use Rattle.token.specs.Items.{item_of}
use Rattle.token.specs.Views.{view, lexeme_view, stretch_view, parted}
use Rattle.token.specs.Walking.{GivesPiece}
use Rattle.token.specs.Lexings.{Lexable, Crowded, Told}
use Rattle.token.proofs.Never.{no_way}
use Rattle.token.proofs.Unique.{reads_on}
use Rattle.token.proofs.Walks.{Walked, Onward, Reached, Gathered, walked_gap, walked_word, walked_wrong, tokens_after}

-- the token that a stretch has at a place
abbrev met : ℕ → Option Token → List (ℕ × Word)
met at None = []
met at (Some t) = (at, view t) ∷ []

-- one turn
turn : (text : List ℕ) (at : ℕ) (found : List (ℕ × Word)) (t : Option Token) (n : ℕ) → Walked text at found → stretch_view t n ≡ parted (item_of (drop at text)) → Onward text at (found ++ met at t) n
turn text at found None n w h = subst (λ l. Onward text at l n) (sym (append-nil found)) (walked_gap text at found n w h)
turn text at found (Some t) n w h = walked_word text at found (view t) n w h

-- a stretch has a byte, and stays within the text
pub stretch_inside : (text : List ℕ) (at : ℕ) (t : Option Token) (n : ℕ) → at ≤ length text → stretch_view t n ≡ parted (item_of (drop at text)) → (0 < n) × (at + n ≤ length text)
stretch_inside text at t n l h =
    let on = turn (drop at text) 0 [] t n (record { items = []; inside = omega arith; reads = refl; here = refl; are = refl }) h in
    (on.some, omega (arith, on.inside, length-drop at text, l))

-- what a piece is that the iterator gives
pub piece_given : (text : List ℕ) (old new : Pieces) (given : Result (ℕ × Piece) ReadFault) (found : ℕ × Piece) → old.text.now ≡ text → GivesPiece old (Some given) new → given ≡ Ok found →
    (found.0 ≡ old.at) × (stretch_view found.1.token found.1.length ≡ parted (item_of (drop old.at text))) × (new.at ≡ old.at + found.1.length) × (new.text.now ≡ text)
piece_given text old new (Err fault) found same g is = no_way cc
piece_given text old new (Ok other) found same g is =
    let one : other ≡ found = cc in
    subst (λ (p : ℕ × Piece). (p.0 ≡ old.at) × (stretch_view p.1.token p.1.length ≡ parted (item_of (drop old.at text))) × (new.at ≡ old.at + p.1.length) × (new.text.now ≡ text)) one
    (g.0, g.1 ∙ ap (λ t. parted (item_of (drop old.at t))) same, g.2, g.3 ∙ same)

-- a fault that it gives is that of the first stray byte
pub fault_given : (text : List ℕ) (old new : Pieces) (given : Result (ℕ × Piece) ReadFault) (fault : ReadFault) → length text ≤ 8192 → Reached text old.at → old.text.now ≡ text → GivesPiece old (Some given) new →
    given ≡ Err fault → Told text (Err fault)
fault_given text old new (Ok found) fault short r same g is = no_way cc
fault_given text old new (Err other) fault short r same g is =
    let one : other ≡ fault = cc in
    subst (λ f. Told text (Err f)) (sym g.0 ∙ one)
    (short, walked_wrong text old.at r.found r.walks (subst (λ t. old.at < length t) same g.1) (g.2 ∙ ap (λ t. parted (item_of (drop old.at t))) same))

-- one turn, wherever the tokens are
pub reached_on : (text : List ℕ) (at : ℕ) (t : Option Token) (n : ℕ) → Reached text at → stretch_view t n ≡ parted (item_of (drop at text)) → Reached text (at + n)
reached_on text at t n r h = record { found = _; walks = (turn text at r.found t n r.walks h).walks }

-- one turn that has no token
pub gathered_gap : (text : List ℕ) (at : ℕ) (lexemes : List Lexeme) (n : ℕ) → Gathered text at lexemes → stretch_view None n ≡ parted (item_of (drop at text)) → Gathered text (at + n) lexemes
gathered_gap text at lexemes n g h = record { walks = (walked_gap text at (map lexeme_view lexemes) n g.walks h).walks; few = g.few }

-- the token behind 1,024 others, in a text that lexes
pub gathered_full : (text : List ℕ) (at : ℕ) (lexemes : List Lexeme) (t : Token) (n : ℕ) → Lexable text → Gathered text at lexemes → length lexemes ≡ 1024 → stretch_view (Some t) n ≡ parted (item_of (drop at text)) → Crowded text at
gathered_full text at lexemes t n l g full h =
    let w = (walked_word text at (map lexeme_view lexemes) (view t) n g.walks h).walks in
    let more = reads_on text w.items l.lexes.items (drop (at + n) text) w.reads l.lexes.reads in
    let after = tokens (0 + length (spelled w.items)) more.0 in
    record {
      found = l.found;
      lexes = l.lexes;
      before = map lexeme_view lexemes;
      word = view t;
      after = after;
      splits = l.lexes.are ∙ ap (tokens 0) more.1 ∙ tokens_after w.items more.0 0 ∙ ap (λ k. k ++ after) (sym w.are) ∙ append_assoc (map lexeme_view lexemes) ((at, view t) ∷ []) after;
      full = length-map lexemes lexeme_view ∙ full;
    }
