-- One stretch begins a text, and the code finds it. Assumes nothing.
use Rattle.std.proofs.Common.{◌≡◌, ℕ, ◌+◌, Bool, true, false, cond, ◌&&◌, eqb, leb, List, [], ◌∷◌, ◌++◌, length, get_or, take, Some, None, Option, sym, refl, ap, ◌∙◌, subst, inl, inr, append_assoc, arith}
use Rattle.std.specs.Str.{bytes_eq}
use Rattle.std.proofs.lemmas.Slice.Eq.{bytes_eq-Decides}
use Rattle.std.proofs.lemmas.List.{take_at}
use Rattle.std.proofs.lemmas.Bool.{eqb-true, eqb-false, ne_eqb, and_parts, cond_both, leb-true}
use Rattle.token.specs.Classes.{Blank, Letter, GoesOn, class}
use Rattle.token.specs.Tokens.{Reserved, let_word, rec_word, and_word, acyclic_word, irreflexive_word, empty_word, flag_word, as_word, Symbol, universe, no_pairs, no_events, inverse, open_round, close_round, open_square, close_square, bar, semicolon, backslash, ampersand, star, tilde, plus, question, equals, Word, name, title, key, sign, keyword, symbol, spelling}
use Rattle.token.specs.Lexing.{Item, blank, comment, token, spell, Every, Closes, Formed, Stops, Apart, Proper}
use Rattle.token.specs.Items.{run, quote_from, end_from, word_of, titled, commented, when, single, opened, signed, begun, item_of}
use Rattle.token.proofs.Never.{no_way, stays_false}
use Rattle.token.proofs.Classes.{classified}
use Rattle.token.proofs.Items.{run_counts, Run, run_splits, quote_found, Quoted, quote_splits, end_found, Ended, end_splits}

-- First: what stands at the beginning of a text is found.

other_word : (bytes : List ℕ) (k : Reserved) → (bytes ≡ keyword k → ⊥) → bytes_eq bytes (keyword k) ≡ false
other_word bytes k h = stays_false _ (λ e. h ((bytes_eq-Decides bytes (keyword k)).0 e))

-- a name that is no reserved word
free_word : (bytes : List ℕ) → ((k : Reserved) → bytes ≡ keyword k → ⊥) → word_of bytes ≡ name bytes
unfolding word_of
free_word bytes h =
    rw (
      other_word bytes let_word (h let_word),
      other_word bytes rec_word (h rec_word),
      other_word bytes and_word (h and_word),
      other_word bytes acyclic_word (h acyclic_word),
      other_word bytes irreflexive_word (h irreflexive_word),
      other_word bytes empty_word (h empty_word),
      other_word bytes flag_word (h flag_word),
      other_word bytes as_word (h as_word),
    ) refl

key_word : (k : Reserved) → word_of (keyword k) ≡ key k
unfolding word_of
key_word let_word = refl
key_word rec_word = refl
key_word and_word = refl
key_word acyclic_word = refl
key_word irreflexive_word = refl
key_word empty_word = refl
key_word flag_word = refl
key_word as_word = refl

-- the same, told by the test
pub word_is : (bytes : List ℕ) (k : Reserved) → true ≡ bytes_eq bytes (keyword k) → key k ≡ word_of bytes
word_is bytes k h = sym (ap word_of ((bytes_eq-Decides bytes (keyword k)).0 (sym h)) ∙ key_word k)

pub word_none : (bytes : List ℕ) → false ≡ bytes_eq bytes (keyword let_word) → false ≡ bytes_eq bytes (keyword rec_word) → false ≡ bytes_eq bytes (keyword and_word) →
    false ≡ bytes_eq bytes (keyword acyclic_word) → false ≡ bytes_eq bytes (keyword irreflexive_word) → false ≡ bytes_eq bytes (keyword empty_word) → false ≡ bytes_eq bytes (keyword flag_word) →
    false ≡ bytes_eq bytes (keyword as_word) → name bytes ≡ word_of bytes
unfolding word_of
word_none bytes a b c d e f g h = rw (← a, ← b, ← c, ← d, ← e, ← f, ← g, ← h) refl

-- a word's bytes, with nothing behind them with which it would go on
word_begins : (bytes more : List ℕ) → Letter (get_or bytes 0 0) → Every GoesOn bytes → Stops more → item_of (bytes ++ more) ≡ Some (token (word_of bytes))
unfolding begun
word_begins [] more (inl l) e s = absurd (omega arith)
word_begins [] more (inr l) e s = absurd (omega arith)
word_begins (b ∷ bytes) more l e s =
    ap (λ c. begun c b (bytes ++ more)) ((classified b).letter.1 l)
    ∙ ap (λ n. Some (token (word_of (take n (b ∷ (bytes ++ more)))))) (run_counts (b ∷ bytes) more 0 e s ∙ (let z : 0 + length (b ∷ bytes) ≡ length (b ∷ bytes) = omega arith in z))
    ∙ ap (λ l. Some (token (word_of l))) (take_at (b ∷ bytes) more _ refl)

letters_go_on : (bytes : List ℕ) → Every Letter bytes → Every GoesOn bytes
letters_go_on [] e = tt
letters_go_on (b ∷ bytes) e = (inl e.0, letters_go_on bytes e.1)

small : (b : ℕ) → leb 97 b && leb b 122 ≡ true → Letter b
small b h = inr (leb-true 97 b (and_parts _ _ h).0, leb-true b 122 (and_parts (leb 97 b) _ h).1)

-- a list of small letters, by one test
all_small : List ℕ → Bool
all_small [] = true
all_small (b ∷ bytes) = (leb 97 b && leb b 122) && all_small bytes

small_letters : (bytes : List ℕ) → all_small bytes ≡ true → Every Letter bytes
unfolding all_small
small_letters [] h = tt
small_letters (b ∷ bytes) h = (small b (and_parts _ _ h).0, small_letters bytes (and_parts (leb 97 b && leb b 122) _ h).1)

keys_small : (k : Reserved) → all_small (keyword k) ≡ true
unfolding all_small
keys_small let_word = refl
keys_small rec_word = refl
keys_small and_word = refl
keys_small acyclic_word = refl
keys_small irreflexive_word = refl
keys_small empty_word = refl
keys_small flag_word = refl
keys_small as_word = refl

key_first : (k : Reserved) → Letter (get_or (keyword k) 0 0)
key_first let_word = small _ refl
key_first rec_word = small _ refl
key_first and_word = small _ refl
key_first acyclic_word = small _ refl
key_first irreflexive_word = small _ refl
key_first empty_word = small _ refl
key_first flag_word = small _ refl
key_first as_word = small _ refl

title_begins : (bytes more : List ℕ) → Every (λ b. b ≡ 34 → ⊥) bytes → item_of (34 ∷ ((bytes ++ (34 ∷ [])) ++ more)) ≡ Some (token (title bytes))
unfolding begun class signed
title_begins bytes more e =
    ap (λ l. titled (quote_from 0 l) l) (append_assoc bytes (34 ∷ []) more)
    ∙ ap (λ o. titled o (bytes ++ (34 ∷ more))) (quote_found bytes more 0 e ∙ ap Some (let z : 0 + length bytes ≡ length bytes = omega arith in z))
    ∙ ap (λ l. Some (token (title l))) (take_at bytes (34 ∷ more) _ refl)

comment_begins : (inside more : List ℕ) → Closes inside → item_of (40 ∷ 42 ∷ ((inside ++ (42 ∷ 41 ∷ [])) ++ more)) ≡ Some (comment inside)
unfolding begun class signed opened
comment_begins inside more c =
    ap (λ l. commented (end_from 0 l) l) (append_assoc inside (42 ∷ 41 ∷ []) more)
    ∙ ap (λ o. commented o (inside ++ (42 ∷ 41 ∷ more))) (end_found inside more 0 c ∙ ap Some (let z : 0 + length inside ≡ length inside = omega arith in z))
    ∙ ap (λ l. Some (comment l)) (take_at inside (42 ∷ 41 ∷ more) _ refl)

open_begins : (more : List ℕ) → ((rest : List ℕ) → 40 ∷ more ≡ 40 ∷ 42 ∷ rest → ⊥) → item_of (40 ∷ more) ≡ Some (token (sign open_round))
unfolding begun class signed opened
open_begins [] h = refl
open_begins (b ∷ more) h = rw (ne_eqb b 42 (λ e. h more (ap (λ x. 40 ∷ x ∷ more) e))) refl

sign_begins : (s : Symbol) (more : List ℕ) → Apart (sign s) more → item_of (symbol s ++ more) ≡ Some (token (sign s))
unfolding begun class signed single
sign_begins universe more h = refl
sign_begins no_pairs more h = refl
sign_begins no_events more h = refl
sign_begins inverse more h = refl
sign_begins open_round more h = open_begins more h
sign_begins close_round more h = refl
sign_begins open_square more h = refl
sign_begins close_square more h = refl
sign_begins bar more h = refl
sign_begins semicolon more h = refl
sign_begins backslash more h = refl
sign_begins ampersand more h = refl
sign_begins star more h = refl
sign_begins tilde more h = refl
sign_begins plus more h = refl
sign_begins question more h = refl
sign_begins equals more h = refl

blank_begins : (b : ℕ) (more : List ℕ) → Blank b → item_of (b ∷ more) ≡ Some (blank b)
unfolding begun
blank_begins b more h = ap (λ c. begun c b more) ((classified b).blank.1 h)

-- whatever stands at the beginning of a text is found there
pub stands_found : (i : Item) (more : List ℕ) → Proper i more → item_of (spell i ++ more) ≡ Some i
stands_found (blank b) more h = blank_begins b more h
stands_found (comment inside) more h = comment_begins inside more h
stands_found (token (name bytes)) more h = word_begins bytes more h.0.first h.0.goes_on h.1 ∙ ap (λ w. Some (token w)) (free_word bytes h.0.free)
stands_found (token (title bytes)) more h = title_begins bytes more h.0
stands_found (token (key k)) more h =
    word_begins (keyword k) more (key_first k) (letters_go_on (keyword k) (small_letters (keyword k) (keys_small k))) h.1 ∙ ap (λ w. Some (token w)) (key_word k)
stands_found (token (sign s)) more h = sign_begins s more h.1

-- Then: what is found stands there.

abbrev Sound : List ℕ → Option Item → Type 0
Sound text None = Unit {0}
Sound text (Some i) = (more : List ℕ) × (text ≡ spell i ++ more) × Proper i more

-- the word of some bytes is written with them, and a name is free
abbrev Good : List ℕ → Word → Type 0
Good bytes w = (spelling w ≡ bytes) × Formed w × ((more : List ℕ) → Stops more → Apart w more)

good_step : (bytes : List ℕ) (k : Reserved) (other : Word) → ((bytes ≡ keyword k → ⊥) → Good bytes other) → Good bytes (cond (bytes_eq bytes (keyword k)) (key k) other)
good_step bytes k other h =
    cond_both (bytes_eq bytes (keyword k)) (key k) other (Good bytes) (λ e. (sym ((bytes_eq-Decides bytes (keyword k)).0 e), tt, λ more s. s))
    (λ e. h (λ same. no_way (let t = (bytes_eq-Decides bytes (keyword k)).1 same in cc)))

abbrev Unlike : List ℕ → Reserved → Type 0
Unlike bytes k = bytes ≡ keyword k → ⊥

word_good : (bytes : List ℕ) → Letter (get_or bytes 0 0) → Every GoesOn bytes → Good bytes (word_of bytes)
unfolding word_of
word_good bytes l e =
    good_step bytes let_word _ (λ a. good_step bytes rec_word _ (λ b. good_step bytes and_word _ (λ c. good_step bytes acyclic_word _ (λ d.
    good_step bytes irreflexive_word _ (λ f. good_step bytes empty_word _ (λ g. good_step bytes flag_word _ (λ h. good_step bytes as_word _ (λ i.
    (refl, record { first = l; goes_on = e; free = free a b c d f g h i }, λ more s. s)))))))))
  where
    free : Unlike bytes let_word → Unlike bytes rec_word → Unlike bytes and_word → Unlike bytes acyclic_word → Unlike bytes irreflexive_word → Unlike bytes empty_word → Unlike bytes flag_word → Unlike bytes as_word → (k : Reserved) → Unlike bytes k
    free a b c d f g h i let_word = a
    free a b c d f g h i rec_word = b
    free a b c d f g h i and_word = c
    free a b c d f g h i acyclic_word = d
    free a b c d f g h i irreflexive_word = f
    free a b c d f g h i empty_word = g
    free a b c d f g h i flag_word = h
    free a b c d f g h i as_word = i

word_sound : (b : ℕ) (rest : List ℕ) → Letter b → Sound (b ∷ rest) (Some (token (word_of (take (run 0 (b ∷ rest)) (b ∷ rest)))))
word_sound b rest l = go (run_splits (b ∷ rest) 0)
  where
    first : (bytes more : List ℕ) → b ∷ rest ≡ bytes ++ more → Stops more → Letter (get_or bytes 0 0)
    first [] [] splits s = no_way cc
    first [] (x ∷ more) splits s = absurd (s (inl (subst Letter (let z : b ≡ x = cc in z) l)))
    first (x ∷ bytes) more splits s = subst Letter (let z : b ≡ x = cc in z) l

    go : Run 0 (b ∷ rest) → Sound (b ∷ rest) (Some (token (word_of (take (run 0 (b ∷ rest)) (b ∷ rest)))))
    go r =
        let long : run 0 (b ∷ rest) ≡ length r.bytes = r.long ∙ (let z : 0 + length r.bytes ≡ length r.bytes = omega arith in z) in
        let is : take (run 0 (b ∷ rest)) (b ∷ rest) ≡ r.bytes = ap (λ n. take n (b ∷ rest)) long ∙ ap (take (length r.bytes)) r.splits ∙ take_at r.bytes r.more _ refl in
        let good = word_good r.bytes (first r.bytes r.more r.splits r.stops) r.on in
        subst (λ l. Sound (b ∷ rest) (Some (token (word_of l)))) (sym is)
        (r.more, r.splits ∙ ap (λ l. l ++ r.more) (sym good.0), (good.1, good.2 r.more r.stops))

title_sound : (rest : List ℕ) (o : Option ℕ) → Quoted 0 rest o → Sound (34 ∷ rest) (titled o rest)
title_sound rest None q = tt
title_sound rest (Some k) (bytes, more, splits, e, long) =
    let is : take k rest ≡ bytes = ap (take k) splits ∙ take_at bytes (34 ∷ more) k (let z : length bytes ≡ k = omega arith in z) in
    subst (λ l. Sound (34 ∷ rest) (Some (token (title l)))) (sym is)
    (more, ap (λ l. 34 ∷ l) (splits ∙ sym (append_assoc bytes (34 ∷ []) more)), (e, tt))

comment_sound : (rest : List ℕ) (o : Option ℕ) → Ended 0 rest o → Sound (40 ∷ 42 ∷ rest) (commented o rest)
comment_sound rest None q = tt
comment_sound rest (Some k) (inside, more, splits, c, long) =
    let is : take k rest ≡ inside = ap (take k) splits ∙ take_at inside (42 ∷ 41 ∷ more) k (let z : length inside ≡ k = omega arith in z) in
    subst (λ l. Sound (40 ∷ 42 ∷ rest) (Some (comment l))) (sym is)
    (more, ap (λ l. 40 ∷ 42 ∷ l) (splits ∙ sym (append_assoc inside (42 ∷ 41 ∷ []) more)), c)

-- a byte stands at the front
front_is : (b : ℕ) (rest : List ℕ) (c : ℕ) → b ≡ c → (c ∷ rest) ≡ (b ∷ rest)
front_is b rest c e = ap (λ x. x ∷ rest) (sym e)

open_sound : (rest : List ℕ) → Sound (40 ∷ rest) (opened rest)
unfolding opened
open_sound [] = ([], refl, (tt, λ rest e. no_way (let z : ◌≡◌ {A = List ℕ} [] (42 ∷ rest) = cc in cc)))
open_sound (b ∷ rest) =
    cond_both (eqb b 42) (commented (end_from 0 rest) rest) (Some (token (sign open_round))) (Sound (40 ∷ b ∷ rest))
    (λ h. subst (λ x. Sound (40 ∷ x ∷ rest) (commented (end_from 0 rest) rest)) (sym (eqb-true b 42 h)) (comment_sound rest _ (end_splits rest 0)))
    (λ h. (b ∷ rest, refl, (tt, λ r e. eqb-false b 42 h (let z : b ≡ 42 = cc in z))))

-- a sign that is no `(`
sign_sound : (b : ℕ) (rest more : List ℕ) (s : Symbol) → b ∷ rest ≡ symbol s ++ more → (b ≡ 40 → ⊥) → Sound (b ∷ rest) (Some (token (sign s)))
sign_sound b rest more s is h = (more, is, (tt, λ r e. h (let z : b ∷ rest ≡ 40 ∷ 42 ∷ r = is ∙ e in cc)))

events_sound : (b : ℕ) (rest : List ℕ) → b ≡ 123 → Sound (b ∷ rest) (when (eqb (get_or rest 0 0) 125) no_events)
events_sound b [] e = tt
events_sound b (x ∷ rest) e =
    cond_both (eqb x 125) (Some (token (sign no_events))) None (Sound (b ∷ x ∷ rest))
    (λ h. sign_sound b (x ∷ rest) rest no_events (let k = eqb-true x 125 h in cc) (λ f. absurd (omega arith))) (λ h. tt)

inverse_sound : (b : ℕ) (rest : List ℕ) → b ≡ 94 → Sound (b ∷ rest) (when (eqb (get_or rest 0 0) 45 && eqb (get_or rest 1 0) 49) inverse)
inverse_sound b [] e = tt
inverse_sound b (x ∷ []) e = cond_both (eqb x 45 && false) (Some (token (sign inverse))) None (Sound (b ∷ x ∷ [])) (λ h. no_way (let k = (and_parts (eqb x 45) false h).1 in cc)) (λ h. tt)
inverse_sound b (x ∷ y ∷ rest) e =
    cond_both (eqb x 45 && eqb y 49) (Some (token (sign inverse))) None (Sound (b ∷ x ∷ y ∷ rest))
    (λ h.
    sign_sound b (x ∷ y ∷ rest) rest inverse (
    let j = eqb-true x 45 (and_parts _ _ h).0 in
    let k = eqb-true y 49 (and_parts (eqb x 45) _ h).1 in
    cc
    ) (λ f. absurd (omega arith))) (λ h. tt)

-- one byte that is a token
one_sound : (b : ℕ) (rest : List ℕ) (c : ℕ) (s : Symbol) (other : Option Item) → symbol s ≡ c ∷ [] → (c ≡ 40 → ⊥) → Sound (b ∷ rest) other → Sound (b ∷ rest) (cond (eqb b c) (Some (token (sign s))) other)
one_sound b rest c s other is h o =
    cond_both (eqb b c) (Some (token (sign s))) other (Sound (b ∷ rest))
    (λ e. sign_sound b rest rest s (ap (λ x. x ∷ rest) (eqb-true b c e) ∙ ap (λ l. l ++ rest) (sym is)) (λ f. h (sym (eqb-true b c e) ∙ f))) (λ e. o)

single_sound : (b : ℕ) (rest : List ℕ) → Sound (b ∷ rest) (single b)
unfolding single
single_sound b rest =
    one_sound b rest 41 close_round _ refl (λ e. omega arith) (one_sound b rest 91 open_square _ refl (λ e. omega arith)
    (one_sound b rest 93 close_square _ refl (λ e. omega arith) (one_sound b rest 124 bar _ refl (λ e. omega arith)
    (one_sound b rest 59 semicolon _ refl (λ e. omega arith) (one_sound b rest 92 backslash _ refl (λ e. omega arith)
    (one_sound b rest 38 ampersand _ refl (λ e. omega arith) (one_sound b rest 42 star _ refl (λ e. omega arith)
    (one_sound b rest 126 tilde _ refl (λ e. omega arith) (one_sound b rest 43 plus _ refl (λ e. omega arith)
    (one_sound b rest 63 question _ refl (λ e. omega arith) (one_sound b rest 61 equals _ refl (λ e. omega arith) tt)))))))))))

signed_sound : (b : ℕ) (rest : List ℕ) → Sound (b ∷ rest) (signed b rest)
unfolding signed
signed_sound b rest =
    cond_both (eqb b 34) _ _ (Sound (b ∷ rest)) (λ h. subst (λ x. Sound (x ∷ rest) (titled (quote_from 0 rest) rest)) (sym (eqb-true b 34 h)) (title_sound rest _ (quote_splits rest 0)))
    (λ h. cond_both (eqb b 40) _ _ (Sound (b ∷ rest)) (λ i. subst (λ x. Sound (x ∷ rest) (opened rest)) (sym (eqb-true b 40 i)) (open_sound rest))
    (λ i. cond_both (eqb b 123) _ _ (Sound (b ∷ rest)) (λ j. events_sound b rest (eqb-true b 123 j))
    (λ j. cond_both (eqb b 94) _ _ (Sound (b ∷ rest)) (λ k. inverse_sound b rest (eqb-true b 94 k)) (λ k. single_sound b rest))))

begun_sound : (b : ℕ) (rest : List ℕ) → Sound (b ∷ rest) (begun (class b) b rest)
unfolding begun
begun_sound b rest =
    cond_both (eqb (class b) 1) _ _ (Sound (b ∷ rest)) (λ h. (rest, refl, (classified b).blank.0 (eqb-true (class b) 1 h)))
    (λ h. cond_both (eqb (class b) 2) _ _ (Sound (b ∷ rest)) (λ i. word_sound b rest ((classified b).letter.0 (eqb-true (class b) 2 i)))
    (λ i. cond_both (eqb (class b) 3) _ _ (Sound (b ∷ rest)) (λ j. one_sound b rest 48 no_pairs None refl (λ e. omega arith) tt)
    (λ j. cond_both (eqb (class b) 4) _ _ (Sound (b ∷ rest)) (λ k. one_sound b rest 95 universe None refl (λ e. omega arith) tt)
    (λ k. cond_both (eqb (class b) 5) _ _ (Sound (b ∷ rest)) (λ l. signed_sound b rest) (λ l. tt)))))

all_sound : (text : List ℕ) → Sound text (item_of text)
all_sound [] = tt
all_sound (b ∷ rest) = begun_sound b rest

-- whatever is found stands at the beginning of the text
pub found_stands : (text : List ℕ) (i : Item) → item_of text ≡ Some i → (more : List ℕ) × (text ≡ spell i ++ more) × Proper i more
found_stands text i h = subst (Sound text) h (all_sound text)
