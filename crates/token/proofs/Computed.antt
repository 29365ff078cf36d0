-- The tokens of a text, computed. Assumes nothing.
use Rattle.std.proofs.Common.{◌≡◌, ℕ, zero, suc, ◌+◌, ◌≤◌, List, [], ◌∷◌, ◌++◌, length, drop, Some, None, Option, sym, refl, ap, ◌∙◌, subst, append-nil, arith, length-append}
use Rattle.std.proofs.lemmas.List.{drop_at}
use Rattle.token.specs.Tokens.{Word}
use Rattle.token.specs.Lexing.{Item, spell, Proper, Reads, tokens}
use Rattle.token.specs.Items.{item_of, ahead, onward, lexed, Computed}
use Rattle.token.proofs.Never.{no_way}
use Rattle.token.proofs.Begins.{stands_found, found_stands}
use Rattle.token.proofs.Walks.{tokens_after, spell_some}

-- the tokens of a stretch, then those behind it
tokens_first : (i : Item) (items : List Item) (at : ℕ) → tokens at (i ∷ items) ≡ tokens at (i ∷ []) ++ tokens (at + length (spell i)) items
tokens_first i items at = tokens_after (i ∷ []) items at ∙ ap (λ l. tokens at (i ∷ []) ++ tokens (at + length l) items) (append-nil (spell i))

-- one turn, where a stretch stands
turn : (turns at : ℕ) (text more : List ℕ) (i : Item) → text ≡ spell i ++ more → Proper i more → lexed (suc turns) at text ≡ ahead (tokens at (i ∷ [])) (lexed turns (at + length (spell i)) more)
unfolding lexed
turn turns at [] more i e p = absurd (let z = ap length e in omega (arith, z, spell_some i more p, length-append (spell i) more))
turn turns at (b ∷ rest) more i e p =
    ap (λ o. onward o (λ j. ahead (tokens at (j ∷ [])) (lexed turns (at + length (spell j)) (drop (length (spell j)) (b ∷ rest))))) (ap item_of e ∙ stands_found i more p)
    ∙ ap (λ l. ahead (tokens at (i ∷ [])) (lexed turns (at + length (spell i)) l)) (ap (drop (length (spell i))) e ∙ drop_at (spell i) more _ refl)

-- the tokens of a text that lexes are found
lexes_found : (items : List Item) (turns at : ℕ) (text : List ℕ) → Reads text items [] → length text ≤ turns → lexed turns at text ≡ Some (tokens at items)
unfolding lexed
lexes_found [] turns at [] r l = refl
lexes_found [] turns at (b ∷ text) r l = no_way cc
lexes_found (i ∷ items) zero at text (more, e, p, r) l = absurd (omega (arith, ap length e, spell_some i more p, length-append (spell i) more))
lexes_found (i ∷ items) (suc turns) at text (more, e, p, r) l =
    turn turns at text more i e p
    ∙ ap (ahead (tokens at (i ∷ []))) (lexes_found items turns (at + length (spell i)) more r (omega (arith, ap length e, spell_some i more p, length-append (spell i) more)))
    ∙ ap Some (sym (tokens_first i items at))

-- what is found are the tokens of the text
abbrev Found : ℕ → List ℕ → Option (List (ℕ × Word)) → Type 0
Found at text None = Unit {0}
Found at text (Some found) = (items : List Item) × Reads text items [] × (found ≡ tokens at items)

found_ahead : (at : ℕ) (text more : List ℕ) (i : Item) (o : Option (List (ℕ × Word))) → text ≡ spell i ++ more → Proper i more → Found (at + length (spell i)) more o → Found at text (ahead (tokens at (i ∷ [])) o)
found_ahead at text more i None e p f = tt
found_ahead at text more i (Some found) e p (items, r, is) = (i ∷ items, (more, e, p, r), ap (λ l. tokens at (i ∷ []) ++ l) is ∙ sym (tokens_first i items at))

found_lexes : (turns at : ℕ) (text : List ℕ) → Found at text (lexed turns at text)
unfolding lexed
found_lexes zero at [] = ([], refl, refl)
found_lexes zero at (b ∷ rest) = tt
found_lexes (suc turns) at [] = ([], refl, refl)
found_lexes (suc turns) at (b ∷ rest) = go (item_of (b ∷ rest)) refl (λ n l. found_lexes turns n l)
  where
    go : (o : Option Item) → item_of (b ∷ rest) ≡ o → ((n : ℕ) (l : List ℕ) → Found n l (lexed turns n l)) →
        Found at (b ∷ rest) (onward o (λ i. ahead (tokens at (i ∷ [])) (lexed turns (at + length (spell i)) (drop (length (spell i)) (b ∷ rest)))))
    go None h f = tt
    go (Some i) h f =
        let s = found_stands (b ∷ rest) i h in
        let more : drop (length (spell i)) (b ∷ rest) ≡ s.0 = ap (drop (length (spell i))) s.1 ∙ drop_at (spell i) s.0 _ refl in
        found_ahead at (b ∷ rest) s.0 i _ s.1 s.2 (subst (λ l. Found (at + length (spell i)) l (lexed turns (at + length (spell i)) (drop (length (spell i)) (b ∷ rest)))) more (f _ _))

pub computed : (text : List ℕ) → Computed text
computed text found = (
  λ l. lexes_found l.items (length text) 0 text l.reads (omega arith) ∙ ap Some (sym l.are),
  λ e.
      let f : Found 0 text (Some found) = subst (Found 0 text) e (found_lexes (length text) 0 text) in
      record { items = f.0; reads = f.1; are = f.2 },
)
