-- Where nothing begins, in words. Assumes nothing.
use Rattle.std.proofs.Common.{◌≡◌, ℕ, zero, suc, ◌+◌, ◌≤◌, Bool, true, false, cond, ◌&&◌, eqb, List, [], ◌∷◌, ◌++◌, get_or, Some, None, codes, Option, sym, refl, ap, ◌∙◌, subst, inl, inr, arith}
use Rattle.std.proofs.lemmas.Bool.{eqb-true, eqb-false, ne_eqb, eq-eqb, and_parts, and_from, cond-false}
use Rattle.token.specs.Classes.{Among, Blank, Letter, Digit, Mark, Sign, class}
use Rattle.token.specs.Tokens.{Symbol, no_pairs, universe, no_events, inverse, open_round, sign}
use Rattle.token.specs.Lexing.{token, Stuck, Fruitless, other, digit, lone, brace, caret, unclosed, unquoted, StuckInWords}
use Rattle.token.specs.Items.{quote_from, end_from, titled, commented, when, single, opened, signed, begun, item_of}
use Rattle.token.proofs.Never.{no_way, stays_false}
use Rattle.token.proofs.Classes.{classified}
use Rattle.token.proofs.Items.{Quoted, quote_splits, Ended, end_splits}
use Rattle.token.proofs.Begins.{stands_found}
use Rattle.token.proofs.Unique.{stuck_none}

-- First: where nothing is found, the byte is one of these.

when_none : (b : Bool) (s : Symbol) → when b s ≡ None → b ≡ false
when_none true s h = no_way cc
when_none false s h = refl

titled_none : (o : Option ℕ) (rest : List ℕ) → titled o rest ≡ None → o ≡ None
titled_none None rest h = refl
titled_none (Some k) rest h = no_way cc

commented_none : (o : Option ℕ) (rest : List ℕ) → commented o rest ≡ None → o ≡ None
commented_none None rest h = refl
commented_none (Some k) rest h = no_way cc

-- a choice that comes to nothing
cond_none : {A : Type 0} (b : Bool) (x : A) (o : Option A) → cond b (Some x) o ≡ None → (b ≡ false) × (o ≡ None)
cond_none true x o h = no_way cc
cond_none false x o h = (refl, h)

no_quote : (before after : List ℕ) (at : ℕ) → quote_from at (before ++ (34 ∷ after)) ≡ None → ⊥
unfolding quote_from
no_quote [] after at h = no_way cc
no_quote (b ∷ before) after at h = no_quote before after (at + 1) (cond_none (eqb b 34) at _ h).1

no_end : (before after : List ℕ) (at : ℕ) → end_from at (before ++ (42 ∷ 41 ∷ after)) ≡ None → ⊥
unfolding end_from
no_end [] after at h = no_way cc
no_end (b ∷ before) after at h = no_end before after (at + 1) (cond_none _ at _ h).1

open_none : (more : List ℕ) → opened more ≡ None → Fruitless 40 more
unfolding opened
open_none [] h = no_way cc
open_none (x ∷ rest) h = go (eqb x 42) refl h
  where
    go : (t : Bool) → eqb x 42 ≡ t → cond t (commented (end_from 0 rest) rest) (Some (token (sign open_round))) ≡ None → Fruitless 40 (x ∷ rest)
    go true e h =
        let none = commented_none (end_from 0 rest) rest h in
        unclosed refl rest (ap (λ y. y ∷ rest) (eqb-true x 42 e)) (λ before after is. no_end before after 0 (ap (end_from 0) (sym is) ∙ none))
    go false e h = no_way cc

title_none : (more : List ℕ) → titled (quote_from 0 more) more ≡ None → Fruitless 34 more
title_none more h = let none = titled_none (quote_from 0 more) more h in unquoted refl (λ before after is. no_quote before after 0 (ap (quote_from 0) (sym is) ∙ none))

brace_none : (more : List ℕ) → when (eqb (get_or more 0 0) 125) no_events ≡ None → Fruitless 123 more
brace_none more h = brace refl (λ rest is. eqb-false (get_or more 0 0) 125 (when_none _ no_events h) (ap (λ l. get_or l 0 0) is))

caret_none : (more : List ℕ) → when (eqb (get_or more 0 0) 45 && eqb (get_or more 1 0) 49) inverse ≡ None → Fruitless 94 more
caret_none more h =
    caret refl
    (λ rest is.
    no_way (
    let f = when_none _ inverse h in
    let t = and_from (eqb (get_or more 0 0) 45) (eqb (get_or more 1 0) 49) (eq-eqb (get_or more 0 0) 45 (ap (λ l. get_or l 0 0) is)) (eq-eqb (get_or more 1 0) 49 (ap (λ l. get_or l 1 0) is)) in
    cc
    ))

-- a sign with which nothing begins
sign_none : (k : ℕ) → Among (codes "\"()[]{}|;\\&*~+?^=") k → (more : List ℕ) → signed k more ≡ None → Fruitless k more
unfolding signed single
sign_none k m more h = go k m h
  where
    at : (k c : ℕ) → (signed c more ≡ None → Fruitless c more) → k ≡ c → signed k more ≡ None → Fruitless k more
    at k c f e h = subst (λ x. Fruitless x more) (sym e) (f (ap (λ x. signed x more) (sym e) ∙ h))

    go : (k : ℕ) → Among (codes "\"()[]{}|;\\&*~+?^=") k → signed k more ≡ None → Fruitless k more
    go k (inl e) h = at k 34 (title_none more) e h
    go k (inr (inl e)) h = at k 40 (open_none more) e h
    go k (inr (inr (inl e))) h = at k 41 (λ n. no_way cc) e h
    go k (inr (inr (inr (inl e)))) h = at k 91 (λ n. no_way cc) e h
    go k (inr (inr (inr (inr (inl e))))) h = at k 93 (λ n. no_way cc) e h
    go k (inr (inr (inr (inr (inr (inl e)))))) h = at k 123 (brace_none more) e h
    go k (inr (inr (inr (inr (inr (inr (inl e))))))) h = at k 125 (λ n. lone (inr (inr (inl refl)))) e h
    go k (inr (inr (inr (inr (inr (inr (inr (inl e)))))))) h = at k 124 (λ n. no_way cc) e h
    go k (inr (inr (inr (inr (inr (inr (inr (inr (inl e))))))))) h = at k 59 (λ n. no_way cc) e h
    go k (inr (inr (inr (inr (inr (inr (inr (inr (inr (inl e)))))))))) h = at k 92 (λ n. no_way cc) e h
    go k (inr (inr (inr (inr (inr (inr (inr (inr (inr (inr (inl e))))))))))) h = at k 38 (λ n. no_way cc) e h
    go k (inr (inr (inr (inr (inr (inr (inr (inr (inr (inr (inr (inl e)))))))))))) h = at k 42 (λ n. no_way cc) e h
    go k (inr (inr (inr (inr (inr (inr (inr (inr (inr (inr (inr (inr (inl e))))))))))))) h = at k 126 (λ n. no_way cc) e h
    go k (inr (inr (inr (inr (inr (inr (inr (inr (inr (inr (inr (inr (inr (inl e)))))))))))))) h = at k 43 (λ n. no_way cc) e h
    go k (inr (inr (inr (inr (inr (inr (inr (inr (inr (inr (inr (inr (inr (inr (inl e))))))))))))))) h = at k 63 (λ n. no_way cc) e h
    go k (inr (inr (inr (inr (inr (inr (inr (inr (inr (inr (inr (inr (inr (inr (inr (inl e)))))))))))))))) h = at k 94 (caret_none more) e h
    go k (inr (inr (inr (inr (inr (inr (inr (inr (inr (inr (inr (inr (inr (inr (inr (inr (inl e))))))))))))))))) h = at k 61 (λ n. no_way cc) e h
    go k (inr (inr (inr (inr (inr (inr (inr (inr (inr (inr (inr (inr (inr (inr (inr (inr (inr e))))))))))))))))) h = absurd e

mark_none : (b : ℕ) (more : List ℕ) → Mark b → when (eqb b 95) universe ≡ None → Fruitless b more
mark_none b more (inl e) h = lone (inl e)
mark_none b more (inr (inl e)) h = lone (inr (inl e))
mark_none b more (inr (inr (inl e))) h = absurd (eqb-false b 95 (when_none _ universe h) e)
mark_none b more (inr (inr (inr e))) h = absurd e

digit_none : (b : ℕ) (more : List ℕ) → Digit b → when (eqb b 48) no_pairs ≡ None → Fruitless b more
digit_none b more d h = let ne = eqb-false b 48 (when_none _ no_pairs h) in digit (omega (arith, d.0, ne)) d.1

none_told : (b : ℕ) (more : List ℕ) → item_of (b ∷ more) ≡ None → Fruitless b more
unfolding begun
none_told b more h = go (class b) refl (classified b).known h
  where
    not : (c k : ℕ) → class b ≡ c → class b ≡ k → (c ≡ k → ⊥) → ⊥
    not c k e f n = n (sym e ∙ f)

    go : (c : ℕ) → class b ≡ c → class b ≤ 5 → begun c b more ≡ None → Fruitless b more
    go zero e l h =
        other (λ m. not 0 1 e ((classified b).blank.1 m) (λ z. omega arith)) (λ m. not 0 2 e ((classified b).letter.1 m) (λ z. omega arith)) (λ m. not 0 3 e ((classified b).digit.1 m) (λ z. omega arith))
        (λ m. not 0 4 e ((classified b).mark.1 m) (λ z. omega arith)) (λ m. not 0 5 e ((classified b).sign.1 m) (λ z. omega arith))
    go (suc zero) e l h = no_way cc
    go (suc (suc zero)) e l h = no_way cc
    go (suc (suc (suc zero))) e l h = digit_none b more ((classified b).digit.0 e) h
    go (suc (suc (suc (suc zero)))) e l h = mark_none b more ((classified b).mark.0 e) h
    go (suc (suc (suc (suc (suc zero))))) e l h = sign_none b ((classified b).sign.0 e) more h
    go (suc (suc (suc (suc (suc (suc c)))))) e l h = absurd (omega arith)

-- Then: with such a byte nothing begins.

quote_none : (more : List ℕ) → ((before after : List ℕ) → more ≡ before ++ (34 ∷ after) → ⊥) → quote_from 0 more ≡ None
quote_none more h = go (quote_from 0 more) refl (quote_splits more 0)
  where
    go : (o : Option ℕ) → quote_from 0 more ≡ o → Quoted 0 more o → quote_from 0 more ≡ None
    go None e q = e
    go (Some k) e (bytes, after, is, clean, long) = absurd (h bytes after is)

end_none : (more : List ℕ) → ((before after : List ℕ) → more ≡ before ++ (42 ∷ 41 ∷ after) → ⊥) → end_from 0 more ≡ None
end_none more h = go (end_from 0 more) refl (end_splits more 0)
  where
    go : (o : Option ℕ) → end_from 0 more ≡ o → Ended 0 more o → end_from 0 more ≡ None
    go None e q = e
    go (Some k) e (bytes, after, is, clean, long) = absurd (h bytes after is)

-- a byte that is k begins what k begins
as_byte : (b k : ℕ) (more : List ℕ) → b ≡ k → item_of (k ∷ more) ≡ None → item_of (b ∷ more) ≡ None
as_byte b k more e h = ap (λ x. item_of (x ∷ more)) e ∙ h

other_none : (b : ℕ) (more : List ℕ) → (Blank b → ⊥) → (Letter b → ⊥) → (Digit b → ⊥) → (Mark b → ⊥) → (Sign b → ⊥) → item_of (b ∷ more) ≡ None
unfolding begun
other_none b more u v w x y = go (class b) refl (classified b).known
  where
    go : (c : ℕ) → class b ≡ c → class b ≤ 5 → begun c b more ≡ None
    go zero e l = refl
    go (suc zero) e l = absurd (u ((classified b).blank.0 e))
    go (suc (suc zero)) e l = absurd (v ((classified b).letter.0 e))
    go (suc (suc (suc zero))) e l = absurd (w ((classified b).digit.0 e))
    go (suc (suc (suc (suc zero)))) e l = absurd (x ((classified b).mark.0 e))
    go (suc (suc (suc (suc (suc zero))))) e l = absurd (y ((classified b).sign.0 e))
    go (suc (suc (suc (suc (suc (suc c)))))) e l = absurd (omega arith)

high_digit : (b : ℕ) (more : List ℕ) → 49 ≤ b → b ≤ 57 → item_of (b ∷ more) ≡ None
unfolding begun
high_digit b more l h =
    ap (λ c. begun c b more) ((classified b).digit.1 (omega arith, h)) ∙ cond-false (eqb b 48) (Some (token (sign no_pairs))) None (ne_eqb b 48 (λ e. omega arith))

lone_none : (b : ℕ) (more : List ℕ) → Among (codes "-.}") b → item_of (b ∷ more) ≡ None
unfolding begun class signed single
lone_none b more (inl e) = as_byte b 45 more e refl
lone_none b more (inr (inl e)) = as_byte b 46 more e refl
lone_none b more (inr (inr (inl e))) = as_byte b 125 more e refl
lone_none b more (inr (inr (inr e))) = absurd e

brace_left : (more : List ℕ) → ((rest : List ℕ) → more ≡ 125 ∷ rest → ⊥) → item_of (123 ∷ more) ≡ None
unfolding begun class signed
brace_left [] h = refl
brace_left (x ∷ more) h = cond-false (eqb x 125) _ _ (ne_eqb x 125 (λ e. h more (ap (λ y. y ∷ more) e)))

caret_left : (more : List ℕ) → ((rest : List ℕ) → more ≡ 45 ∷ 49 ∷ rest → ⊥) → item_of (94 ∷ more) ≡ None
unfolding begun class signed
caret_left [] h = refl
caret_left (x ∷ []) h = cond-false (eqb x 45 && false) _ _ (stays_false _ (λ t. no_way (let k = (and_parts (eqb x 45) false t).1 in cc)))
caret_left (x ∷ y ∷ more) h =
    cond-false (eqb x 45 && eqb y 49) _ _
    (stays_false _ (λ t. h more (
    let j = eqb-true x 45 (and_parts _ _ t).0 in
    let k = eqb-true y 49 (and_parts (eqb x 45) _ t).1 in
    cc
    )))

unclosed_left : (rest : List ℕ) → ((before after : List ℕ) → rest ≡ before ++ (42 ∷ 41 ∷ after) → ⊥) → item_of (40 ∷ 42 ∷ rest) ≡ None
unfolding begun class signed opened
unclosed_left rest h = ap (λ o. commented o rest) (end_none rest h)

unquoted_left : (more : List ℕ) → ((before after : List ℕ) → more ≡ before ++ (34 ∷ after) → ⊥) → item_of (34 ∷ more) ≡ None
unfolding begun class signed
unquoted_left more h = ap (λ o. titled o more) (quote_none more h)

told_none : (b : ℕ) (more : List ℕ) → Fruitless b more → item_of (b ∷ more) ≡ None
told_none b more (other u v w x y) = other_none b more u v w x y
told_none b more (digit l h) = high_digit b more l h
told_none b more (lone m) = lone_none b more m
told_none b more (brace e h) = as_byte b 123 more e (brace_left more h)
told_none b more (caret e h) = as_byte b 94 more e (caret_left more h)
told_none b more (unclosed e rest is h) = as_byte b 40 more e (ap (λ l. item_of (40 ∷ l)) is ∙ unclosed_left rest h)
told_none b more (unquoted e h) = as_byte b 34 more e (unquoted_left more h)

-- where nothing is found, nothing begins
none_stuck : (b : ℕ) (more : List ℕ) → item_of (b ∷ more) ≡ None → Stuck (b ∷ more)
none_stuck b more h =
    record {
      some = λ e. no_way cc;
      none = λ i rest e p. no_way (let z : None ≡ Some i = sym h ∙ ap item_of e ∙ stands_found i rest p in cc);
    }

pub stuck_in_words : StuckInWords
stuck_in_words b more = (λ s. none_told b more (stuck_none (b ∷ more) s), λ f. none_stuck b more (told_none b more f))
