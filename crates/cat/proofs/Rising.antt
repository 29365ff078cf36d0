-- The places of tokens rise. Assumes nothing.
use Rattle.std.proofs.Common.{ℕ, zero, suc, ◌+◌, ◌<◌, ◌≤◌, List, [], ◌∷◌, length, sym, ap, ◌∙◌, subst, arith, length-append}
use Rattle.token.specs.Lexing.{Item, blank, comment, token, spell, Reads, tokens, Lexes}
use Rattle.token.proofs.Walks.{spell_some}
use Rattle.cat.specs.Sorts.{Tokens}
use Rattle.cat.specs.Readings.{place_of}
use Rattle.cat.specs.Laws.{PlacesRise, PlacesWithin, LowestHasLowestPlace}

-- the places rise, from one on and below an end
abbrev Rising : ℕ → ℕ → Tokens → Type 0
Rising low end [] = Unit {0}
Rising low end (t ∷ ts) = (low ≤ t.0) × (t.0 < end) × Rising (t.0 + 1) end ts

lower : (low from end : ℕ) (ts : Tokens) → low ≤ from → Rising from end ts → Rising low end ts
lower low from end [] le h = tt
lower low from end (t ∷ ts) le (above, below, more) = (omega arith, below, more)

-- those of a text's tokens do
rising : (items : List Item) (at end : ℕ) (text : List ℕ) → Reads text items [] → at + length text ≤ end → Rising at end (tokens at items)
rising [] at end text r le = tt
rising (blank b ∷ items) at end text (more, e, p, r) le =
    let long = ap length e ∙ length-append (spell (blank b)) more in
    lower at (at + length (spell (blank b))) end (tokens (at + length (spell (blank b))) items) (omega arith) (rising items (at + length (spell (blank b))) end more r (omega arith))
rising (comment inside ∷ items) at end text (more, e, p, r) le =
    let long = ap length e ∙ length-append (spell (comment inside)) more in
    lower at (at + length (spell (comment inside))) end (tokens (at + length (spell (comment inside))) items) (omega arith) (rising items (at + length (spell (comment inside))) end more r (omega arith))
rising (token w ∷ items) at end text (more, e, p, r) le =
    let long = ap length e ∙ length-append (spell (token w)) more in
    let some = spell_some (token w) more p in
    (omega arith, omega arith, lower (at + 1) (at + length (spell (token w))) end (tokens (at + length (spell (token w))) items) (omega arith) (rising items (at + length (spell (token w))) end more r (omega arith)))

rising_text : (text : List ℕ) (found : Tokens) → Lexes text found → Rising 0 (length text) found
rising_text text found h = subst (Rising 0 (length text)) (sym h.are) (rising h.items 0 (length text) text h.reads (omega arith))

-- what that says of each token, and of two
within : (text : List ℕ) (low : ℕ) (found : Tokens) (k : ℕ) → Rising low (length text) found → k < length found → (low ≤ place_of text found k) × (place_of text found k < length text)
within text low [] k h lt = absurd (omega arith)
within text low (t ∷ ts) zero (above, below, more) lt = (above, below)
within text low (t ∷ ts) (suc k) (above, below, more) lt = let i = within text (t.0 + 1) ts k more (omega arith) in (omega arith, i.1)

apart : (text : List ℕ) (low : ℕ) (found : Tokens) (j k : ℕ) → Rising low (length text) found → j < k → k < length found → place_of text found j < place_of text found k
apart text low [] j k h lt here = absurd (omega arith)
apart text low (t ∷ ts) j zero h lt here = absurd (omega arith)
apart text low (t ∷ ts) zero (suc k) (above, below, more) lt here = let i = within text (t.0 + 1) ts k more (omega arith) in omega arith
apart text low (t ∷ ts) (suc j) (suc k) (above, below, more) lt here = apart text (t.0 + 1) ts j k more (omega arith) (omega arith)

-- behind the last token the place is the text's end
no_less : (text : List ℕ) (low : ℕ) (found : Tokens) (j k : ℕ) → Rising low (length text) found → low ≤ length text → j ≤ k → place_of text found j ≤ place_of text found k
no_less text low [] zero zero h le lt = omega arith
no_less text low [] zero (suc k) h le lt = omega arith
no_less text low [] (suc j) zero h le lt = omega arith
no_less text low [] (suc j) (suc k) h le lt = omega arith
no_less text low (t ∷ ts) zero zero h le lt = omega arith
no_less text low (t ∷ ts) (suc j) zero h le lt = absurd (omega arith)
no_less text low (t ∷ ts) zero (suc k) (above, below, more) le lt = let i = at_least text (t.0 + 1) ts k more (omega arith) in omega arith
  where
    at_least : (text : List ℕ) (low : ℕ) (found : Tokens) (k : ℕ) → Rising low (length text) found → low ≤ length text → low ≤ place_of text found k
    at_least text low [] zero h le = le
    at_least text low [] (suc k) h le = le
    at_least text low (t ∷ ts) zero (above, below, more) le = above
    at_least text low (t ∷ ts) (suc k) (above, below, more) le = let i = at_least text (t.0 + 1) ts k more (omega arith) in omega arith
no_less text low (t ∷ ts) (suc j) (suc k) (above, below, more) le lt = no_less text (t.0 + 1) ts j k more (omega arith) (omega arith)

pub places_rise : PlacesRise
places_rise text found h j k lt here = apart text 0 found j k (rising_text text found h) lt here

pub places_within : PlacesWithin
places_within text found h k lt = (within text 0 found k (rising_text text found h) lt).1

pub lowest_has_lowest_place : LowestHasLowestPlace
lowest_has_lowest_place text found h faults k low j in-there = no_less text 0 found k j (rising_text text found h) (omega arith) (low.1 j in-there)
