-- A text has one lexing, or one first stray byte. Assumes nothing.
use Rattle.std.proofs.Common.{◌≡◌, ℕ, ◌≤◌, List, [], ◌∷◌, ◌++◌, length, get_or, Some, None, Ok, Err, Option, sym, refl, ap, ◌∙◌, subst, arith, length-append}
use Rattle.std.proofs.lemmas.List.{get_or_at, append_cancel_left}
use Rattle.token.specs.declared.fault.ReadFault.TheVariants.{TooLong, Stray, TooManyTokens, Memory}
use Rattle.token.specs.Tokens.{Word}
use Rattle.token.specs.Lexing.{Item, spell, spelled, Proper, Reads, tokens, Lexes, Stuck, Strays}
use Rattle.token.specs.Items.{item_of}
use Rattle.token.specs.Lexings.{Crowded, OneLexing}
use Rattle.token.proofs.Never.{no_way}
use Rattle.token.proofs.Begins.{stands_found, found_stands}

-- one stretch begins a text
begins_one : (text : List ℕ) (i j : Item) (m n : List ℕ) → text ≡ spell i ++ m → Proper i m → text ≡ spell j ++ n → Proper j n → (i ≡ j) × (m ≡ n)
begins_one text i j m n e p f q =
    let a : item_of text ≡ Some i = ap item_of e ∙ stands_found i m p in
    let b : item_of text ≡ Some j = ap item_of f ∙ stands_found j n q in
    let same : i ≡ j = cc in
    (same, append_cancel_left (spell i) m n (sym e ∙ f ∙ ap (λ k. spell k ++ n) (sym same)))

-- two walks to places where nothing begins are the same
pub reads_one : (text : List ℕ) (a b : List Item) (x y : List ℕ) → Reads text a x → Reads text b y → item_of x ≡ None → item_of y ≡ None → (a ≡ b) × (x ≡ y)
reads_one text [] [] x y r s h k = (refl, sym r ∙ s)
reads_one text [] (j ∷ b) x y r (n, f, q, s) h k = no_way (let z : None ≡ Some j = sym h ∙ ap item_of (sym r) ∙ ap item_of f ∙ stands_found j n q in cc)
reads_one text (i ∷ a) [] x y (m, e, p, r) s h k = no_way (let z : None ≡ Some i = sym k ∙ ap item_of (sym s) ∙ ap item_of e ∙ stands_found i m p in cc)
reads_one text (i ∷ a) (j ∷ b) x y (m, e, p, r) (n, f, q, s) h k =
    let same = begins_one text i j m n e p f q in
    let rest = reads_one m a b x y r (subst (λ l. Reads l b y) (sym same.1) s) h k in
    (ap (λ k. k ∷ a) same.0 ∙ ap (λ l. j ∷ l) rest.0, rest.1)

-- a walk through a whole text goes on from any other
pub reads_on : (text : List ℕ) (a b : List Item) (x : List ℕ) → Reads text a x → Reads text b [] → (more : List Item) × (b ≡ a ++ more)
reads_on text [] b x r s = (b, refl)
reads_on text (i ∷ a) [] x (m, e, p, r) s = no_way (let z : None ≡ Some i = sym (ap item_of s) ∙ ap item_of e ∙ stands_found i m p in cc)
reads_on text (i ∷ a) (j ∷ b) x (m, e, p, r) (n, f, q, s) =
    let same = begins_one text i j m n e p f q in
    let more = reads_on m a b x r (subst (λ l. Reads l b []) (sym same.1) s) in
    (more.0, ap (λ k. k ∷ b) (sym same.0) ∙ ap (λ l. i ∷ l) more.1)

-- where nothing begins, nothing is found
pub stuck_none : (rest : List ℕ) → Stuck rest → item_of rest ≡ None
stuck_none rest s = go (item_of rest) refl
  where
    go : (o : Option Item) → item_of rest ≡ o → item_of rest ≡ None
    go None e = e
    go (Some i) e = let f = found_stands rest i e in absurd (s.none i f.0 f.1 f.2)

-- two lexings of a text are the same
pub one_lexing : (text : List ℕ) (found other : List (ℕ × Word)) → Lexes text found → Lexes text other → found ≡ other
one_lexing text found other a b = a.are ∙ ap (tokens 0) (reads_one text a.items b.items [] [] a.reads b.reads refl refl).0 ∙ sym b.are

-- two first stray bytes are the same
pub one_stray : (text : List ℕ) (place other : ℕ) → Strays text place → Strays text other → place ≡ other
one_stray text place other a b =
    a.here ∙ ap (λ l. length (spelled l)) (reads_one text a.items b.items a.rest b.rest a.reads b.reads (stuck_none a.rest a.stuck) (stuck_none b.rest b.stuck)).0 ∙ sym b.here

-- a text that lexes has no stray byte
pub lexes_or_strays : (text : List ℕ) (found : List (ℕ × Word)) (place : ℕ) → Lexes text found → Strays text place → ⊥
lexes_or_strays text found place a b = b.stuck.some (sym (reads_one text a.items b.items [] b.rest a.reads b.reads refl (stuck_none b.rest b.stuck)).1)

-- a crowded text has one 1,025th token
one_crowd : (text : List ℕ) (place other : ℕ) → Crowded text place → Crowded text other → place ≡ other
one_crowd text place other a b =
    let same = one_lexing text a.found b.found a.lexes b.lexes in
    let x = ap (λ l. get_or l 1024 (place, a.word)) a.splits ∙ get_or_at a.before (place, a.word) a.after (place, a.word) 1024 a.full in
    let y = ap (λ l. get_or l 1024 (place, a.word)) b.splits ∙ get_or_at b.before (other, b.word) b.after (place, a.word) 1024 b.full in
    ap (λ q. q.0) (sym x ∙ ap (λ l. get_or l 1024 (place, a.word)) same ∙ y)

-- and more than 1,024 tokens
crowd_more : (text : List ℕ) (place : ℕ) (found : List (ℕ × Word)) → Crowded text place → Lexes text found → length found ≤ 1024 → ⊥
crowd_more text place found a b l =
    omega (arith, a.full, ap length (one_lexing text found a.found b a.lexes), ap length a.splits, length-append a.before ((place, a.word) ∷ a.after))

-- every text has one answer
pub one_answer : (text : List ℕ) → OneLexing text
one_answer text (Ok found) (Ok other) x y h k = ap Ok (one_lexing text found other x.1 y.1)
one_answer text (Ok found) (Err TooLong) x y h k = absurd (omega (arith, x.0))
one_answer text (Ok found) (Err (Stray there)) x y h k = absurd (lexes_or_strays text found there x.1 y.1)
one_answer text (Ok found) (Err (TooManyTokens there)) x y h k = absurd (crowd_more text there found y.1 x.1 x.2)
one_answer text (Ok found) (Err Memory) x y h k = absurd (k refl)
one_answer text (Err TooLong) (Ok other) x y h k = absurd (omega (arith, y.0))
one_answer text (Err TooLong) (Err TooLong) x y h k = refl
one_answer text (Err TooLong) (Err (Stray there)) x y h k = absurd (omega (arith, y.0))
one_answer text (Err TooLong) (Err (TooManyTokens there)) x y h k = absurd (omega (arith, y.0))
one_answer text (Err TooLong) (Err Memory) x y h k = absurd (k refl)
one_answer text (Err (Stray place)) (Ok other) x y h k = absurd (lexes_or_strays text other place y.1 x.1)
one_answer text (Err (Stray place)) (Err TooLong) x y h k = absurd (omega (arith, x.0))
one_answer text (Err (Stray place)) (Err (Stray there)) x y h k = ap (λ n. Err (Stray n)) (one_stray text place there x.1 y.1)
one_answer text (Err (Stray place)) (Err (TooManyTokens there)) x y h k = absurd (lexes_or_strays text _ place y.1.lexes x.1)
one_answer text (Err (Stray place)) (Err Memory) x y h k = absurd (k refl)
one_answer text (Err (TooManyTokens place)) (Ok other) x y h k = absurd (crowd_more text place other x.1 y.1 y.2)
one_answer text (Err (TooManyTokens place)) (Err TooLong) x y h k = absurd (omega (arith, x.0))
one_answer text (Err (TooManyTokens place)) (Err (Stray there)) x y h k = absurd (lexes_or_strays text _ there x.1.lexes y.1)
one_answer text (Err (TooManyTokens place)) (Err (TooManyTokens there)) x y h k = ap (λ n. Err (TooManyTokens n)) (one_crowd text place there x.1 y.1)
one_answer text (Err (TooManyTokens place)) (Err Memory) x y h k = absurd (k refl)
one_answer text (Err Memory) (Ok other) x y h k = absurd (h refl)
one_answer text (Err Memory) (Err TooLong) x y h k = absurd (h refl)
one_answer text (Err Memory) (Err (Stray there)) x y h k = absurd (h refl)
one_answer text (Err Memory) (Err (TooManyTokens there)) x y h k = absurd (h refl)
one_answer text (Err Memory) (Err Memory) x y h k = absurd (h refl)
