-- Counting up to a token, and what is past a limit there. Assumes nothing.
use Rattle.std.proofs.Common.{◌≡◌, ℕ, ◌+◌, ◌<◌, ◌≤◌, Bool, true, false, List, [], ◌∷◌, ◌++◌, length, get_or, take, drop, sym, refl, ap, ◌∙◌, subst, ⊎_elim, arith, below_none, below_more}
use Rattle.std.proofs.lemmas.Bool.{cases_lt}
use Rattle.std.proofs.lemmas.List.{drop_all, drop_more, take_more}
use Rattle.sentence.specs.declared.sort.Sort.{Sort}
use Rattle.sentence.specs.declared.sort.Sort.TheVariants as sort
use Rattle.cat.specs.declared.class.Class.{Class}
use Rattle.cat.specs.declared.class.Class.TheVariants.{Name, Equals, Word, Opens, Closes, Other}
use Rattle.cat.specs.declared.class.Tally.{Tally}
use Rattle.cat.specs.Limits.{class, first_class, counted, sum, tally, nothing_counted, past, over, WithinLimits, FirstOver}

-- the class behind the end, and at a place
pub class_past : (ts : List Sort) (k : ℕ) → length ts ≤ k → Other ≡ first_class (drop k ts)
class_past ts k h = sym (ap first_class (drop_all k ts h))

pub class_here : (ts : List Sort) (k : ℕ) (d : Sort) → k < length ts → first_class (drop k ts) ≡ class (get_or ts k d)
class_here ts k d h = ap first_class (drop_more ts k d h)

-- one more sort
tally_last : (t : Tally) (ts : List Sort) (s : Sort) → tally t (ts ++ (s ∷ [])) ≡ counted (tally t ts) (class s)
unfolding tally
tally_last t [] s = refl
tally_last t (x ∷ ts) s = tally_last (counted t (class x)) ts s

sum_more : (t : Tally) (c : Class) → sum (counted t c) ≤ sum t + 1
sum_more t Name = omega arith
sum_more t Equals = omega arith
sum_more t Word = omega arith
sum_more t Opens = omega arith
sum_more t Closes = omega arith
sum_more t Other = omega arith

-- what is counted up to a token, which is past no limit so far
pub record Counting (ts : List Sort) (k : ℕ) (t : Tally) : Type 0 where
  pub is : t ≡ tally nothing_counted (take k ts)
  pub few : sum t ≤ k
  pub below : (j : ℕ) → j < k → over ts j ≡ false

pub counting_first : (ts : List Sort) (t : Tally) → t.equals ≡ 0 → t.words ≡ 0 → t.opened ≡ 0 → t.closed ≡ 0 → Counting ts 0 t
unfolding tally
counting_first ts t e w o c = record { is = none t.equals t.words t.opened t.closed e w o c; few = omega arith; below = below_none (λ j. over ts j ≡ false) }
  where
    none : (a b c d : ℕ) → a ≡ 0 → b ≡ 0 → c ≡ 0 → d ≡ 0 → record { equals = a; words = b; opened = c; closed = d } ≡ nothing_counted
    none a b c d e f g h = cc

-- what is asked at a token
over_here : (ts : List Sort) (k : ℕ) (t : Tally) (c n : Class) (b : Bool) → Counting ts k t → c ≡ first_class (drop k ts) → n ≡ first_class (drop (k + 1) ts) → b ≡ past c n t → over ts k ≡ b
unfolding over
over_here ts k t c n b h e f g = let i = h.is in cc

pub counting_more : (ts : List Sort) (k : ℕ) (t u : Tally) (c n : Class) → Counting ts k t → k < length ts → c ≡ class (get_or ts k sort.Name) → n ≡ first_class (drop (k + 1) ts) → past c n t ≡ false → u ≡ counted t c → Counting ts (k + 1) u
counting_more ts k t u c n h lt e f g is =
    record {
      is =
          is ∙ ap (λ x. counted x c) h.is ∙ ap (counted (tally nothing_counted (take k ts))) e
          ∙ sym (tally_last nothing_counted (take k ts) (get_or ts k sort.Name)) ∙ ap (tally nothing_counted) (sym (take_more ts k sort.Name lt));
      few = subst (λ x. sum x ≤ k + 1) (sym is) (let m = sum_more t c in let w = h.few in omega arith);
      below = below_more (λ j. over ts j ≡ false) k h.below (over_here ts k t c n false h (e ∙ sym (class_here ts k sort.Name lt)) f (sym g));
    }

pub counting_over : (ts : List Sort) (k : ℕ) (t : Tally) (c n : Class) → Counting ts k t → k < length ts → c ≡ class (get_or ts k sort.Name) → n ≡ first_class (drop (k + 1) ts) → past c n t ≡ true → FirstOver ts k
counting_over ts k t c n h lt e f g = record { here = over_here ts k t c n true h (e ∙ sym (class_here ts k sort.Name lt)) f (sym g); before = h.below }

-- behind the end nothing is past a limit
over_past : (ts : List Sort) (k : ℕ) → length ts ≤ k → over ts k ≡ false
unfolding over
over_past ts k h = ap (λ c. past c (first_class (drop (k + 1) ts)) (tally nothing_counted (take k ts))) (sym (class_past ts k h))

pub counting_done : (ts : List Sort) (k : ℕ) (t : Tally) → Counting ts k t → length ts ≤ k → WithinLimits ts
counting_done ts k t h long j = ⊎_elim (λ lt. h.below j lt) (λ ge. over_past ts j (omega arith)) (cases_lt j k)
