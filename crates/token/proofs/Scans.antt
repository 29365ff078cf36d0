-- The library's scans find what the rules' scans find. Assumes nothing.
use Rattle.std.proofs.Common.{◌≡◌, ℕ, zero, suc, ◌+◌, ◌<◌, ◌≤◌, Bool, true, false, cond, ◌&&◌, not, eqb, List, [], ◌∷◌, length, get_or, unwrap_or, Some, None, Option, option_map, IsTrue, IsSomeAnd, IfSome, MatchOption, bytes_eq, sym, refl, ap, ◌∙◌, subst, ⊎_elim, arith}
use Rattle.std.specs.Iterator.Runs.{Run, AllItems, AllItemsBelow, AllItemsGive, IsFirstToGive, CallKeepsClosure, IsWindowsRun}
use denote.Ref.{Bor}
use denote.Param.Members.{Mut, Called}
use Rattle.std.specs.List.{position, position_from, IsSubsliceAt}
use Rattle.std.proofs.lemmas.Iterator.Adapters.{position_from-zero}
use Rattle.std.proofs.lemmas.List.{get_or_past}
use Rattle.std.proofs.lemmas.Bool.{cond-true, cond-false, and_right, cases_lt}
use Rattle.std.proofs.lemmas.Option.{IfSome_then}
use Rattle.token.specs.Items.{goes_on, run, quote_from, end_from}
use Rattle.token.proofs.Never.{no_way}

-- the run, from a place on
run_turn : (at : ℕ) (rest : List ℕ) (on : Bool) → unwrap_or (position_from (λ c. not (goes_on c)) (at + 1) rest) (at + 1 + length rest) ≡ run (at + 1) rest →
    unwrap_or (cond (not on) (Some at) (position_from (λ c. not (goes_on c)) (at + 1) rest)) (at + suc (length rest)) ≡ cond on (run (at + 1) rest) at
run_turn at rest true h = ap (unwrap_or (position_from (λ c. not (goes_on c)) (at + 1) rest)) (let z : at + suc (length rest) ≡ at + 1 + length rest = omega arith in z) ∙ h
run_turn at rest false h = refl

run_on : (text : List ℕ) (at : ℕ) → unwrap_or (position_from (λ b. not (goes_on b)) at text) (at + length text) ≡ run at text
unfolding run
run_on [] at = omega arith
run_on (b ∷ rest) at = run_turn at rest (goes_on b) (run_on rest (at + 1))

pub run_is : (text : List ℕ) → unwrap_or (position (λ b. not (goes_on b)) text) (length text) ≡ run 0 text
run_is text =
    ap (λ o. unwrap_or o (length text)) (position_from-zero (λ b. not (goes_on b)) text)
    ∙ ap (unwrap_or (position_from (λ b. not (goes_on b)) 0 text)) (let z : length text ≡ 0 + length text = omega arith in z) ∙ run_on text 0

-- the quote, from a place on
quote_on : (text : List ℕ) (at : ℕ) → position_from (λ b. eqb b 34) at text ≡ quote_from at text
unfolding quote_from
quote_on [] at = refl
quote_on (b ∷ rest) at = ap (cond (eqb b 34) (Some at)) (quote_on rest (at + 1))

pub quote_is : (text : List ℕ) → position (λ b. eqb b 34) text ≡ quote_from 0 text
quote_is text = position_from-zero (λ b. eqb b 34) text ∙ quote_on text 0

-- `*)` stands at a place
abbrev pub ends_at : List ℕ → ℕ → Bool
ends_at text at = eqb (get_or text at 0) 42 && eqb (get_or text (suc at) 0) 41

pub end_first : (text : List ℕ) (at k : ℕ) → ((j : ℕ) → j < k → ends_at text j ≡ false) → ends_at text k ≡ true → end_from at text ≡ Some (at + k)
unfolding end_from
end_first [] at k none here = no_way cc
end_first (b ∷ rest) at zero none here = cond-true (eqb b 42 && eqb (get_or rest 0 0) 41) _ _ here ∙ ap Some (let z : at ≡ at + 0 = omega arith in z)
end_first (b ∷ rest) at (suc k) none here =
    cond-false (eqb b 42 && eqb (get_or rest 0 0) 41) _ _ (none 0 (omega arith)) ∙ end_first rest (at + 1) k (λ j l. none (suc j) (omega arith)) here
    ∙ ap Some (let z : at + 1 + k ≡ at + suc k = omega arith in z)

pub end_never : (text : List ℕ) (at : ℕ) → ((j : ℕ) → ends_at text j ≡ false) → end_from at text ≡ None
unfolding end_from
end_never [] at none = refl
end_never (b ∷ rest) at none = cond-false (eqb b 42 && eqb (get_or rest 0 0) 41) _ _ (none 0) ∙ end_never rest (at + 1) (λ j. none (suc j))

also_true : (b : Bool) → (b && true) ≡ b
also_true true = refl
also_true false = refl

-- two bytes that were read from a place
pair_read : (text pair : List ℕ) (at : ℕ) → length pair ≡ 2 → ((j d : ℕ) → j < 2 → get_or pair j d ≡ get_or text (at + j) d) → bytes_eq pair (42 ∷ 41 ∷ []) ≡ ends_at text at
pair_read text [] at l r = absurd (omega arith)
pair_read text (a ∷ []) at l r = absurd (omega arith)
pair_read text (a ∷ b ∷ []) at l r =
    let first : a ≡ get_or text at 0 = r 0 0 (omega arith) ∙ ap (λ n. get_or text n 0) (let z : at + 0 ≡ at = omega arith in z) in
    let second : b ≡ get_or text (suc at) 0 = r 1 0 (omega arith) ∙ ap (λ n. get_or text n 0) (let z : at + 1 ≡ suc at = omega arith in z) in
    ap (λ x. eqb a 42 && x) (also_true (eqb b 41)) ∙ ap (λ x. eqb x 42 && eqb b 41) first ∙ ap (λ y. eqb (get_or text at 0) 42 && eqb y 41) second
pair_read text (a ∷ b ∷ c ∷ pair) at l r = absurd (omega arith)

-- no `*)` stands past the last two bytes
past_pairs : (text : List ℕ) (at : ℕ) → length text ≤ suc at → ends_at text at ≡ false
past_pairs text at l = ap (λ x. eqb (get_or text at 0) 42 && eqb x 41) (get_or_past text (suc at) 0 l) ∙ and_right (eqb (get_or text at 0) 42) false refl

-- a pair at a place
abbrev Pair : List ℕ → ℕ → Bor (List ℕ) → Type 0
Pair text at pair = (length pair.now ≡ 2) × (at + 2 ≤ length text) × IsSubsliceAt 2 text at pair.now

pair_hit : (text : List ℕ) (at : ℕ) (o : Option (Bor (List ℕ))) (v : Bool) → IfSome o (Pair text at) → IsSomeAnd o (λ x. bytes_eq x.now (42 ∷ 41 ∷ []) ≡ v) → ends_at text at ≡ v
pair_hit text at None v p h = absurd h
pair_hit text at (Some x) v (long, room, (is, few, reads)) h = sym (pair_read text x.now at long reads) ∙ h

pair_missed : (text : List ℕ) (at : ℕ) (o : Option (Bor (List ℕ))) (b : ℕ) → IfSome o (Pair text at) → IfSome o (λ x. bytes_eq x.now (42 ∷ 41 ∷ []) ≡ false) →
    option_map (λ x. get_or x.now 0 0) o ≡ Some b → ends_at text at ≡ false
pair_missed text at None b p h e = no_way cc
pair_missed text at (Some x) b (long, room, (is, few, reads)) h e = sym (pair_read text x.now at long reads) ∙ h

-- the windows of two bytes
pub windows_run : {S : Type 0} {steps : S → Option (Bor (List ℕ)) → S → Type 0} (size : S → ℕ) (rest : S → List ℕ) (text : List ℕ) (s : S) (p : Run steps) → p.from ≡ s → size s ≡ 2 → rest s ≡ text →
    (0 < size p.from → IsWindowsRun p (size p.from) (rest p.from)) → IsWindowsRun p 2 text
windows_run size rest text s p from two left w =
    let n : size p.from ≡ 2 = ap size from ∙ two in
    let t : rest p.from ≡ text = ap rest from ∙ left in
    subst (IsWindowsRun p 2) t (subst (λ k. IsWindowsRun p k (rest p.from)) n (w (omega arith)))

is_some_and : {A : Type 0} {P Q : A → Type 0} (o : Option A) → ((x : A) → P x → Q x) → IsSomeAnd o P → IsSomeAnd o Q
is_some_and None f h = h
is_some_and (Some x) f h = f x h

-- what a test of pairs answered
pub pairs_tested : {S F : Type 0} {steps : S → Option (Bor (List ℕ)) → S → Type 0} {g : Mut F (Bor (List ℕ) × Unit {0}) Bool} {f : F} (result : Option ℕ) (p : Run steps) →
    MatchOption result (IsTrue p.whole × AllItemsGive p g f false) (λ i. (p.len ≡ i + 1) × IsFirstToGive p g f true false i) → CallKeepsClosure g f →
    ((x : Bor (List ℕ)) (b : Bool) → Called g f (x, tt) b f → bytes_eq x.now (42 ∷ 41 ∷ []) ≡ b) →
    MatchOption result (IsTrue p.whole × AllItems p (λ x. bytes_eq x.now (42 ∷ 41 ∷ []) ≡ false))
    (λ i. (p.len ≡ i + 1) × IsSomeAnd (p.at i) (λ x. bytes_eq x.now (42 ∷ 41 ∷ []) ≡ true) × AllItemsBelow p i (λ x. bytes_eq x.now (42 ∷ 41 ∷ []) ≡ false))
pairs_tested None p (whole, give) keeps calls = (whole, λ k. IfSome_then (p.at k) (give keeps k) (λ x. calls x false))
pairs_tested (Some i) p (long, give) keeps calls =
    let r = give keeps in
    (long, is_some_and (p.at i) (λ x. calls x true) r.0, λ k l. is_some_and (p.at k) (λ x. calls x false) (r.1 k l))

-- the first pair of neighbours that is `*)`
pub end_is : {S : Type 0} {steps : S → Option (Bor (List ℕ)) → S → Type 0} (text : List ℕ) (result : Option ℕ) (p : Run steps) → IsWindowsRun p 2 text →
    MatchOption result (IsTrue p.whole × AllItems p (λ x. bytes_eq x.now (42 ∷ 41 ∷ []) ≡ false))
    (λ i. (p.len ≡ i + 1) × IsSomeAnd (p.at i) (λ x. bytes_eq x.now (42 ∷ 41 ∷ []) ≡ true) × AllItemsBelow p i (λ x. bytes_eq x.now (42 ∷ 41 ∷ []) ≡ false)) → result ≡ end_from 0 text
end_is text None p (few, all, pairs, firsts) (whole, none) = sym (end_never text 0 never)
  where
    never : (j : ℕ) → ends_at text j ≡ false
    never j =
        ⊎_elim (λ l. pair_missed text j (p.at j) _ (pairs j) (none j) (firsts j 0 (omega (arith, all whole)))) (λ l. past_pairs text j l) (cases_lt (suc j) (length text))
end_is text (Some i) p (few, all, pairs, firsts) (long, hit, below) =
    sym (end_first text 0 i (λ j l. pair_hit text j (p.at j) false (pairs j) (below j l)) (pair_hit text i (p.at i) true (pairs i) hit) ∙ ap Some (let z : 0 + i ≡ i = omega arith in z))
