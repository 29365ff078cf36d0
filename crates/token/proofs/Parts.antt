-- What the code makes of a stretch: its token and its length. Assumes nothing.
use Rattle.std.proofs.Common.{◌≡◌, ℕ, suc, ◌+◌, ◌≤◌, Bool, true, false, cond, eqb, List, [], ◌∷◌, ◌++◌, length, take, Some, sym, refl, ap, ◌∙◌, subst, arith, length-append}
use Rattle.std.specs.Bool.{then_some}
use Rattle.std.specs.Str.{bytes_eq}
use Rattle.std.proofs.lemmas.Slice.Eq.{bytes_eq-Decides}
use Rattle.std.proofs.lemmas.List.{length-take-le}
use Rattle.std.proofs.lemmas.Bool.{cond_both, cond-false, ne_eqb}
use Rattle.token.specs.Classes.{class}
use Rattle.token.specs.Tokens.{Reserved, let_word, rec_word, and_word, acyclic_word, irreflexive_word, empty_word, flag_word, as_word, Word, name, title, key, sign, open_round, Symbol, keyword, symbol, spelling}
use Rattle.token.specs.Lexing.{token}
use Rattle.token.specs.Items.{run, quote_from, end_from, word_of, titled, commented, when, opened, begun, item_of}
use Rattle.token.specs.declared.piece.Piece.{Piece}
use Rattle.token.specs.Views.{gap, word, piece_view, parted}
use Rattle.token.proofs.Items.{run_splits, Quoted, quote_splits, Ended, end_splits}

-- a word is written with its bytes
spelled_step : (bytes : List ℕ) (k : Reserved) (other : Word) → spelling other ≡ bytes → spelling (cond (bytes_eq bytes (keyword k)) (key k) other) ≡ bytes
spelled_step bytes k other h = cond_both (bytes_eq bytes (keyword k)) (key k) other (λ w. spelling w ≡ bytes) (λ e. sym ((bytes_eq-Decides bytes (keyword k)).0 e)) (λ e. h)

pub word_spelled : (bytes : List ℕ) → spelling (word_of bytes) ≡ bytes
unfolding word_of
word_spelled bytes =
    spelled_step bytes let_word _ (spelled_step bytes rec_word _ (spelled_step bytes and_word _ (spelled_step bytes acyclic_word _
    (spelled_step bytes irreflexive_word _ (spelled_step bytes empty_word _ (spelled_step bytes flag_word _ (spelled_step bytes as_word (name bytes) refl)))))))

pub run_within : (text : List ℕ) → run 0 text ≤ length text
run_within text = let r = run_splits text 0 in omega (arith, r.long, ap length r.splits, length-append r.bytes r.more)

pub word_part : (text bytes : List ℕ) (n : ℕ) (w : Word) → n ≡ run 0 text → bytes ≡ take n text → w ≡ word_of bytes → word w n ≡ parted (Some (token (word_of (take (run 0 text) text))))
word_part text bytes n w long is h =
    let same : bytes ≡ take (run 0 text) text = is ∙ ap (λ k. take k text) long in
    let size : n ≡ length (spelling (word_of (take (run 0 text) text))) = long ∙ sym (length-take-le (run 0 text) text (run_within text)) ∙ ap length (sym (word_spelled (take (run 0 text) text))) in
    ap (λ v. word v n) (h ∙ ap word_of same) ∙ ap (word (word_of (take (run 0 text) text))) size

-- a quote that was found lies within
pub quote_within : (text : List ℕ) (k : ℕ) → Some k ≡ quote_from 0 text → k + 1 ≤ length text
quote_within text k h = go (subst (Quoted 0 text) (sym h) (quote_splits text 0))
  where
    go : Quoted 0 text (Some k) → k + 1 ≤ length text
    go (bytes, more, splits, e, long) = omega (arith, ap length splits, length-append bytes (34 ∷ more))

pub title_part : (text bytes : List ℕ) (k : ℕ) → Some k ≡ quote_from 0 text → bytes ≡ take k text → word (title bytes) (k + 2) ≡ parted (titled (quote_from 0 text) text)
title_part text bytes k h is =
    let low = quote_within text k h in
    let size : k + 2 ≡ suc (length (take k text ++ (34 ∷ []))) = omega (arith, length-append (take k text) (34 ∷ []), length-take-le k text (omega arith)) in
    ap (λ l. word (title l) (k + 2)) is ∙ ap (word (title (take k text))) size ∙ ap (λ o. parted (titled o text)) h

-- an end that was found lies within
pub end_within : (text : List ℕ) (k : ℕ) → Some k ≡ end_from 0 text → k + 2 ≤ length text
end_within text k h = go (subst (Ended 0 text) (sym h) (end_splits text 0))
  where
    go : Ended 0 text (Some k) → k + 2 ≤ length text
    go (bytes, more, splits, e, long) = omega (arith, ap length splits, length-append bytes (42 ∷ 41 ∷ more))

pub comment_part : (text : List ℕ) (k : ℕ) → Some k ≡ end_from 0 text → gap (k + 4) ≡ parted (commented (end_from 0 text) text)
comment_part text k h =
    let low = end_within text k h in
    let size : k + 4 ≡ suc (suc (length (take k text ++ (42 ∷ 41 ∷ [])))) = omega (arith, length-append (take k text) (42 ∷ 41 ∷ []), length-take-le k text (omega arith)) in
    ap gap size ∙ ap (λ o. parted (commented o text)) h

pub open_comment : (text inside : List ℕ) → text ≡ 42 ∷ inside → parted (commented (end_from 0 inside) inside) ≡ parted (opened text)
unfolding opened
open_comment text inside h = ap (λ l. parted (opened l)) (sym h)

pub open_part : (text : List ℕ) → ((rest : List ℕ) → text ≡ 42 ∷ rest → ⊥) → word (sign open_round) 1 ≡ parted (opened text)
unfolding opened
open_part [] h = refl
open_part (b ∷ text) h = ap parted (sym (cond-false (eqb b 42) (commented (end_from 0 text) text) (Some (token (sign open_round))) (ne_eqb b 42 (λ e. h text (ap (λ x. x ∷ text) e)))))

-- what begins with a byte of a known class
pub begun_at : (text : List ℕ) (b : ℕ) (rest : List ℕ) (c : ℕ) → text ≡ b ∷ rest → c ≡ class b → begun c b rest ≡ item_of text
begun_at text b rest c is h = ap (λ k. begun k b rest) h ∙ ap item_of (sym is)

pub word_begun : (text : List ℕ) (b : ℕ) (rest : List ℕ) → text ≡ b ∷ rest → 2 ≡ class b → Some (token (word_of (take (run 0 text) text))) ≡ item_of text
unfolding begun
word_begun text b rest is h = ap (λ l. Some (token (word_of (take (run 0 l) l)))) is ∙ begun_at text b rest 2 is h

-- a token, if a test holds
pub when_part : (s : Symbol) (b : Bool) (p : Piece) → piece_view (Some p) ≡ word (sign s) (length (symbol s)) → piece_view (then_some b p) ≡ parted (when b s)
when_part s true p h = h
when_part s false p h = refl
