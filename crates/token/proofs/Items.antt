-- What the code finds at the beginning of a text is what stands there. Assumes nothing.
use Rattle.std.proofs.Common.{◌≡◌, ℕ, zero, suc, ◌+◌, ◌≤◌, Bool, true, false, ◌&&◌, eqb, leb, List, [], ◌∷◌, ◌++◌, length, get_or, Some, None, Option, sym, refl, ap, ◌∙◌, subst, inl, inr, arith}
use Rattle.std.proofs.lemmas.Bool.{eqb-true, eqb-false, ne_eqb, eq-eqb, leb-true, and_parts, and_from, cond_both, cond-true, cond-false, and_right}
use Rattle.token.specs.Classes.{GoesOn, class}
use Rattle.token.specs.Lexing.{Every, Closes, Stops}
use Rattle.token.specs.Items.{goes_on, run, quote_from, end_from}
use Rattle.token.proofs.Never.{no_way, stays_false}
use Rattle.token.proofs.Classes.{classified}

-- the bytes that go on in a name, by the class
pub goes_on_told : (b : ℕ) → goes_on b ≡ true → GoesOn b
goes_on_told b h =
    let low = leb-true 2 (class b) (and_parts _ _ h).0 in
    let high = leb-true (class b) 4 (and_parts (leb 2 (class b)) _ h).1 in
    go (class b) refl low high
  where
    go : (c : ℕ) → class b ≡ c → 2 ≤ c → c ≤ 4 → GoesOn b
    go zero e l h = absurd (omega arith)
    go (suc zero) e l h = absurd (omega arith)
    go (suc (suc zero)) e l h = inl ((classified b).letter.0 e)
    go (suc (suc (suc zero))) e l h = inr (inl ((classified b).digit.0 e))
    go (suc (suc (suc (suc zero)))) e l h = inr (inr ((classified b).mark.0 e))
    go (suc (suc (suc (suc (suc c))))) e l h = absurd (omega arith)

pub goes_on_from : (b : ℕ) → GoesOn b → goes_on b ≡ true
goes_on_from b (inl h) = ap (λ c. leb 2 c && leb c 4) ((classified b).letter.1 h)
goes_on_from b (inr (inl h)) = ap (λ c. leb 2 c && leb c 4) ((classified b).digit.1 h)
goes_on_from b (inr (inr h)) = ap (λ c. leb 2 c && leb c 4) ((classified b).mark.1 h)

-- a name's bytes are counted to where they end
pub run_counts : (bytes more : List ℕ) (at : ℕ) → Every GoesOn bytes → Stops more → run at (bytes ++ more) ≡ at + length bytes
unfolding run
run_counts [] [] at e s = omega arith
run_counts [] (b ∷ more) at e s = cond-false (goes_on b) (run (at + 1) more) at (stays_false (goes_on b) (λ h. s (goes_on_told b h))) ∙ (let z : at ≡ at + 0 = omega arith in z)
run_counts (b ∷ bytes) more at e s =
    cond-true (goes_on b) (run (at + 1) (bytes ++ more)) at (goes_on_from b e.0) ∙ run_counts bytes more (at + 1) e.1 s ∙ (let z : at + 1 + length bytes ≡ at + suc (length bytes) = omega arith in z)

-- and what was counted are a name's bytes
pub record Run (at : ℕ) (text : List ℕ) : Type 0 where
  pub bytes : List ℕ
  pub more : List ℕ
  pub splits : text ≡ bytes ++ more
  pub on : Every GoesOn bytes
  pub stops : Stops more
  pub long : run at text ≡ at + length bytes

pub run_splits : (text : List ℕ) (at : ℕ) → Run at text
unfolding run
run_splits [] at = record { bytes = []; more = []; splits = refl; on = tt; stops = tt; long = omega arith }
run_splits (b ∷ rest) at = go (goes_on b) refl (run_splits rest (at + 1))
  where
    go : (t : Bool) → goes_on b ≡ t → Run (at + 1) rest → Run at (b ∷ rest)
    go true h r =
        record {
          bytes = b ∷ r.bytes;
          more = r.more;
          splits = ap (λ l. b ∷ l) r.splits;
          on = (goes_on_told b h, r.on);
          stops = r.stops;
          long = cond-true (goes_on b) (run (at + 1) rest) at h ∙ r.long ∙ (let z : at + 1 + length r.bytes ≡ at + suc (length r.bytes) = omega arith in z);
        }
    go false h r =
        record {
          bytes = [];
          more = b ∷ rest;
          splits = refl;
          on = tt;
          stops = λ g. no_way (let k = goes_on_from b g in cc);
          long = cond-false (goes_on b) (run (at + 1) rest) at h ∙ (let z : at ≡ at + 0 = omega arith in z);
        }

-- the next quote ends bytes without one
pub quote_found : (bytes more : List ℕ) (at : ℕ) → Every (λ b. b ≡ 34 → ⊥) bytes → quote_from at (bytes ++ (34 ∷ more)) ≡ Some (at + length bytes)
unfolding quote_from
quote_found [] more at e = ap Some (let z : at ≡ at + 0 = omega arith in z)
quote_found (b ∷ bytes) more at e =
    cond-false (eqb b 34) (Some at) (quote_from (at + 1) (bytes ++ (34 ∷ more))) (ne_eqb b 34 e.0) ∙ quote_found bytes more (at + 1) e.1
    ∙ ap Some (let z : at + 1 + length bytes ≡ at + suc (length bytes) = omega arith in z)

-- the bytes before the next quote, if there is one
abbrev pub Quoted : ℕ → List ℕ → Option ℕ → Type 0
Quoted at text None = Unit {0}
Quoted at text (Some k) = (bytes : List ℕ) × (more : List ℕ) × (text ≡ bytes ++ (34 ∷ more)) × Every (λ b. b ≡ 34 → ⊥) bytes × (k ≡ at + length bytes)

quoted_more : (b at : ℕ) (rest : List ℕ) (o : Option ℕ) → (b ≡ 34 → ⊥) → Quoted (at + 1) rest o → Quoted at (b ∷ rest) o
quoted_more b at rest None h q = tt
quoted_more b at rest (Some k) h (bytes, more, splits, e, long) =
    (b ∷ bytes, more, ap (λ l. b ∷ l) splits, (h, e), long ∙ (let z : at + 1 + length bytes ≡ at + suc (length bytes) = omega arith in z))

pub quote_splits : (text : List ℕ) (at : ℕ) → Quoted at text (quote_from at text)
unfolding quote_from
quote_splits [] at = tt
quote_splits (b ∷ rest) at =
    cond_both (eqb b 34) (Some at) (quote_from (at + 1) rest) (Quoted at (b ∷ rest)) (λ h. ([], rest, ap (λ c. c ∷ rest) (eqb-true b 34 h), tt, (let z : at ≡ at + 0 = omega arith in z)))
    (λ h. quoted_more b at rest _ (eqb-false b 34 h) (quote_splits rest (at + 1)))

-- the next end of a comment closes bytes without one
closes_tail : (b : ℕ) (bytes : List ℕ) → Closes (b ∷ bytes) → Closes bytes
closes_tail b bytes c before after e = c (b ∷ before) after (ap (λ l. b ∷ l) e)

closes_head : (b : ℕ) (bytes more : List ℕ) → Closes (b ∷ bytes) → (eqb b 42 && eqb (get_or (bytes ++ (42 ∷ 41 ∷ more)) 0 0) 41) ≡ false
closes_head b [] more c = and_right (eqb b 42) false refl
closes_head b (x ∷ bytes) more c =
    stays_false _
    (λ h. c [] (bytes ++ (42 ∷ [])) (
    let p = eqb-true b 42 (and_parts _ _ h).0 in
    let q = eqb-true x 41 (and_parts (eqb b 42) _ h).1 in
    cc
    ))

pub end_found : (bytes more : List ℕ) (at : ℕ) → Closes bytes → end_from at (bytes ++ (42 ∷ 41 ∷ more)) ≡ Some (at + length bytes)
unfolding end_from
end_found [] more at c = ap Some (let z : at ≡ at + 0 = omega arith in z)
end_found (b ∷ bytes) more at c =
    cond-false _ (Some at) (end_from (at + 1) (bytes ++ (42 ∷ 41 ∷ more))) (closes_head b bytes more c) ∙ end_found bytes more (at + 1) (closes_tail b bytes c)
    ∙ ap Some (let z : at + 1 + length bytes ≡ at + suc (length bytes) = omega arith in z)

abbrev pub Ended : ℕ → List ℕ → Option ℕ → Type 0
Ended at text None = Unit {0}
Ended at text (Some k) = (bytes : List ℕ) × (more : List ℕ) × (text ≡ bytes ++ (42 ∷ 41 ∷ more)) × Closes bytes × (k ≡ at + length bytes)

closes_none : Closes []
closes_none [] after e = no_way (let z : ◌≡◌ {A = List ℕ} [] (41 ∷ after) = cc in cc)
closes_none (b ∷ before) after e = go before (let z : ◌≡◌ {A = List ℕ} [] (before ++ (42 ∷ 41 ∷ after)) = cc in z)
  where
    go : (l : List ℕ) → ◌≡◌ {A = List ℕ} [] (l ++ (42 ∷ 41 ∷ after)) → ⊥
    go [] e = no_way cc
    go (x ∷ l) e = no_way cc

-- one more byte before an end that closes
closes_more : (b : ℕ) (bytes more : List ℕ) → (eqb b 42 && eqb (get_or (bytes ++ (42 ∷ 41 ∷ more)) 0 0) 41) ≡ false → Closes bytes → Closes (b ∷ bytes)
closes_more b bytes more h c (x ∷ before) after e = c before after (let z : bytes ++ (42 ∷ []) ≡ before ++ (42 ∷ 41 ∷ after) = cc in z)
closes_more b [] more h c [] after e = no_way (let z : ◌≡◌ {A = ℕ} 42 41 = cc in absurd (omega arith))
closes_more b (y ∷ bytes) more h c [] after e =
    no_way (
    let p : b ≡ 42 = cc in
    let q : y ≡ 41 = cc in
    let z : ◌≡◌ {A = Bool} true false = sym (and_from (eqb b 42) (eqb y 41) (eq-eqb b 42 p) (eq-eqb y 41 q)) ∙ h in
    cc
    )

ended_more : (b at : ℕ) (rest : List ℕ) (o : Option ℕ) → (eqb b 42 && eqb (get_or rest 0 0) 41) ≡ false → Ended (at + 1) rest o → Ended at (b ∷ rest) o
ended_more b at rest None h q = tt
ended_more b at rest (Some k) h (bytes, more, splits, c, long) = (
  b ∷ bytes,
  more,
  ap (λ l. b ∷ l) splits,
  closes_more b bytes more (subst (λ l. (eqb b 42 && eqb (get_or l 0 0) 41) ≡ false) splits h) c,
  long ∙ (let z : at + 1 + length bytes ≡ at + suc (length bytes) = omega arith in z),
)

-- where `*)` stands at the front
ends_here : (b at : ℕ) (rest : List ℕ) → (eqb b 42 && eqb (get_or rest 0 0) 41) ≡ true → Ended at (b ∷ rest) (Some at)
ends_here b at [] h = no_way (let q = (and_parts (eqb b 42) false h).1 in cc)
ends_here b at (x ∷ rest) h =
    let p = eqb-true b 42 (and_parts _ _ h).0 in
    let q = eqb-true x 41 (and_parts (eqb b 42) _ h).1 in
    ([], rest, cc, closes_none, (let z : at ≡ at + 0 = omega arith in z))

pub end_splits : (text : List ℕ) (at : ℕ) → Ended at text (end_from at text)
unfolding end_from
end_splits [] at = tt
end_splits (b ∷ rest) at =
    cond_both (eqb b 42 && eqb (get_or rest 0 0) 41) (Some at) (end_from (at + 1) rest) (Ended at (b ∷ rest)) (ends_here b at rest) (λ h. ended_more b at rest _ h (end_splits rest (at + 1)))
