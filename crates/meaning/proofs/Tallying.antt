-- Checks tried one by one. Assumes nothing.
use Rattle.std.proofs.Common.{◌≡◌, ℕ, zero, suc, ◌+◌, ◌*◌, ◌%◌, ◌^◌, ◌<◌, ◌≤◌, Bool, true, false, not, ◌&&◌, ◌⊎◌, ◌↔◌, List, [], ◌∷◌, ◌++◌, map, min, length, get_or, take, Some, None, Decides, Option, sym, refl, ap, ◌∙◌, subst, inl, inr, ⊎_elim, true≢false, arith}
use mathlib.Core.Path.{subst⁻¹}
use Rattle.std.specs.List.{zip, filter_map, range_with_len}
use Rattle.std.proofs.lemmas.List.{take_all, take_more, length-take-le, length_push}
use Rattle.std.proofs.lemmas.List.FromFn.{get_or-range_with_len}
use Rattle.std.proofs.lemmas.Slice.Zip.{get_or-zip, length-zip}
use Rattle.std.proofs.lemmas.Bool.{and_parts, and_from, both_ways}
use Rattle.finite.specs.Lists.{At}
use Rattle.relation.specs.declared.value.Value.{Value}
use Rattle.relation.specs.Sets.{Either}
use Rattle.relation.specs.Masks.{Member, Marks}
use Rattle.relation.specs.Bits.{in_nothing, in_power}
use Rattle.term.specs.Statements.{Claim, Statement, claim_of, statement_of, statements_of, claims}
use Rattle.term.specs.declared.statement.Statement as program
use Rattle.term.specs.declared.statement.Statement.TheVariants.{Let, Group, Check}
use Rattle.given.specs.declared.base.Base as given_base
use Rattle.given.specs.Bases.{base_meaning}
use Rattle.meaning.specs.declared.outcome.Outcome.{Outcome}
use Rattle.meaning.specs.Meanings.{Base}
use Rattle.meaning.specs.Groups.{bindings_mean}
use Rattle.meaning.specs.Checks.{is_flag}
use Rattle.meaning.specs.Tables.{value_meaning}
use Rattle.meaning.specs.Knowns.{Known}
use Rattle.meaning.specs.Outcomes.{Good, claim_in, first_of, RaisesBit, Tally, Totalled, WithinLimits, Judged}
use Rattle.meaning.proofs.Placed.{at_below}
use Rattle.meaning.proofs.Knowing.{mean_same, same_all_sym}
use Rattle.meaning.proofs.Asking.{good_as}

module _ {A : Type 0} where
  -- what stands in a list with one more at its end
  at_push : (xs : List A) (y : A) (k : ℕ) (x : A) → At (xs ++ y ∷ []) k x → At xs k x ⊎ ((k ≡ length xs) × (x ≡ y))
  at_push [] y zero x h = inr (refl, h)
  at_push [] y (suc k) x h = absurd h
  at_push (z ∷ xs) y zero x h = inl h
  at_push (z ∷ xs) y (suc k) x h = ⊎_elim inl (λ e. inr (ap suc e.0, e.1)) (at_push xs y k x h)

  at_front : (xs ys : List A) (k : ℕ) (x : A) → At xs k x → At (xs ++ ys) k x
  at_front [] ys k x h = absurd h
  at_front (z ∷ xs) ys zero x h = h
  at_front (z ∷ xs) ys (suc k) x h = at_front xs ys k x h

  at_last : (xs : List A) (y : A) → At (xs ++ y ∷ []) (length xs) y
  at_last [] y = refl
  at_last (z ∷ xs) y = at_last xs y

-- the failure that is kept
first_none : (f : Option ℕ) (n : ℕ) (b : Bool) → first_of f n b ≡ None → (f ≡ None) × (b ≡ false)
first_none None n true e = let z : ◌≡◌ {A = ℕ} 0 1 = cc in absurd (omega arith)
first_none None n false e = (refl, refl)
first_none (Some k) n b e = let z : ◌≡◌ {A = ℕ} 0 1 = cc in absurd (omega arith)

first_some : (f : Option ℕ) (n : ℕ) (b : Bool) (k : ℕ) → first_of f n b ≡ Some k → (f ≡ Some k) ⊎ ((f ≡ None) × (b ≡ true) × (n ≡ k))
first_some None n true k e = inr (refl, refl, cc)
first_some None n false k e = let z : ◌≡◌ {A = ℕ} 0 1 = cc in absurd (omega arith)
first_some (Some j) n b k e = inl e

option_cases : (f : Option ℕ) → (f ≡ None) ⊎ ((k : ℕ) × (f ≡ Some k))
option_cases None = inl refl
option_cases (Some k) = inr (k, refl)

-- of a check that is no flag
holds_then : (flag good : Bool) → (not flag && not good) ≡ false → flag ≡ false → good ≡ true
holds_then true good e f = absurd (true≢false f)
holds_then false true e f = refl
holds_then false false e f = absurd (true≢false e)

fails_then : (flag good : Bool) → (not flag && not good) ≡ true → (flag ≡ false) × (good ≡ false)
fails_then true good e = absurd (true≢false (sym e))
fails_then false true e = absurd (true≢false (sym e))
fails_then false false e = (refl, refl)

-- the bits with one more, and without
pub raised_up : (old n : ℕ) (up : Bool) {new : ℕ} → n < 16 → up ≡ true → Marks new (Either (Member old) (Member ((1 * 2 ^ n) % 2 ^ 32))) → RaisesBit old n up new
raised_up old n up l e h k =
    (λ m. ⊎_elim inl (λ b. inr (e, (in_power n k (omega arith)).0 b)) ((h.same k).0 m), λ m. (h.same k).1 (⊎_elim inl (λ b. inr ((in_power n k (omega arith)).1 b.1)) m))

pub raised_not : (old n : ℕ) (up : Bool) → up ≡ false → RaisesBit old n up old
raised_not old n up e k = (inl, ⊎_elim (λ m. m) (λ b. absurd (both_ways up e b.0)))

module _ (P : Claim → Type 0) where
  -- of no checks
  pub tally_none : (o : Outcome) → o.failure ≡ None → o.flags ≡ 0 → Tally P [] o
  tally_none o e f =
      record {
        passed = λ _ k c h. absurd h;
        first = λ k h. let z : ◌≡◌ {A = ℕ} 0 1 = cc in absurd (omega arith);
        flags = λ k. (λ m. absurd (in_nothing k (subst (λ x. Member x k) f m)), λ r. absurd r.here);
      }

  -- of one more check
  pub tally_more : (cs : List Claim) (c : Claim) (o r : Outcome) (n : ℕ) (flag good : Bool) → length cs ≡ n → flag ≡ is_flag c.mark → Decides good (P c) → r.failure ≡ first_of o.failure n (not flag && not good) → RaisesBit o.flags n (flag && good) r.flags → Tally P cs o → Tally P (cs ++ c ∷ []) r
  tally_more cs c o r n flag good long mark decides failure raises t =
      record {
        passed = λ e k x at nf.
            let f = first_none o.failure n (not flag && not good) (sym failure ∙ e) in
            ⊎_elim
            (λ there. t.passed f.0 k x there nf)
            (λ here. subst⁻¹ P here.1 (decides.0 (holds_then flag good f.1 (mark ∙ ap (λ y. is_flag y.mark) (sym here.1) ∙ nf))))
            (at_push cs c k x at);
        first = λ k e.
            ⊎_elim
            (λ same.
            let f = t.first k same in
            let under = at_below cs k f.claim f.here in
            record {
              claim = f.claim;
              here = at_front cs (c ∷ []) k f.claim f.here;
              no_flag = f.no_flag;
              fails = f.fails;
              before = λ j x l at nf. ⊎_elim (λ there. f.before j x l there nf) (λ here. absurd (omega (arith, l, here.0, under))) (at_push cs c j x at);
            })
            (λ new.
            let f = fails_then flag good new.1 in
            record {
              claim = c;
              here = subst (λ i. At (cs ++ c ∷ []) i c) (long ∙ new.2) (at_last cs c);
              no_flag = sym mark ∙ f.0;
              fails = λ p. both_ways good f.1 (decides.1 p);
              before = λ j x l at nf. ⊎_elim (λ there. t.passed new.0 j x there nf) (λ here. absurd (omega (arith, l, here.0, long, new.2))) (at_push cs c j x at);
            })
            (first_some o.failure n (not flag && not good) k (sym failure ∙ e));
        flags = λ k. (
          λ m.
              ⊎_elim
              (λ old. let x = (t.flags k).0 old in record { claim = x.claim; here = at_front cs (c ∷ []) k x.claim x.here; flag = x.flag; holds = x.holds })
              (λ new.
              let b = and_parts flag good new.0 in
              record { claim = c; here = subst (λ i. At (cs ++ c ∷ []) i c) (long ∙ sym new.1) (at_last cs c); flag = sym mark ∙ b.0; holds = decides.0 b.1 })
              ((raises k).0 m),
          λ x.
              (raises k).1
              (⊎_elim
              (λ there. inl ((t.flags k).1 (record { claim = x.claim; here = there; flag = x.flag; holds = x.holds })))
              (λ here.
              inr (
                and_from flag good (mark ∙ ap (λ y. is_flag y.mark) (sym here.1) ∙ x.flag) (decides.1 (subst P here.1 x.holds)),
                here.0 ∙ long,
              ))
              (at_push cs c k x.claim x.here)),
        );
      }

  -- where other facts say the same
  pub tally_as : (Q : Claim → Type 0) → ((c : Claim) → P c ↔ Q c) → (cs : List Claim) (o : Outcome) → Tally P cs o → Tally Q cs o
  tally_as Q h cs o t =
      record {
        passed = λ e k c at nf. (h c).0 (t.passed e k c at nf);
        first = λ k e.
            let f = t.first k e in
            record { claim = f.claim; here = f.here; no_flag = f.no_flag; fails = λ q. f.fails ((h f.claim).1 q); before = λ j c l at nf. (h c).0 (f.before j c l at nf) };
        flags = λ k. (
          λ m. let x = (t.flags k).0 m in record { claim = x.claim; here = x.here; flag = x.flag; holds = (h x.claim).0 x.holds },
          λ x. (t.flags k).1 (record { claim = x.claim; here = x.here; flag = x.flag; holds = (h x.claim).1 x.holds }),
        );
      }

-- the check that a statement of the program is
abbrev pub claim_at : program.Statement → Option Claim
claim_at s = claim_in (statement_of s)

-- the checks among statements, as `filter_map` gives them
claims_are : (ss : List program.Statement) → filter_map claim_at ss ≡ claims (statements_of ss)
unfolding claims
claims_are [] = refl
claims_are (Let b ∷ ss) = claims_are ss
claims_are (Group bs ∷ ss) = claims_are ss
claims_are (Check c ∷ ss) = ap (λ cs. claim_of c ∷ cs) (claims_are ss)

-- the first 16 checks, with their numbers
abbrev pub numbered : List program.Statement → List (ℕ × Claim)
numbered ss = zip (range_with_len 0 16) (filter_map claim_at ss)

many_numbered : (ss : List program.Statement) → length (numbered ss) ≡ min 16 (length (claims (statements_of ss)))
many_numbered ss = length-zip (range_with_len 0 16) (filter_map claim_at ss) ∙ ap (λ cs. min 16 (length cs)) (claims_are ss)

-- a check and its number, behind so many
pub record Turn (ss : List program.Statement) (n number : ℕ) (c : Claim) : Type 0 where
  pub same : number ≡ n
  pub few : n < 16
  pub long : length (take n (claims (statements_of ss))) ≡ n
  pub more : take (n + 1) (claims (statements_of ss)) ≡ take n (claims (statements_of ss)) ++ c ∷ []

pub turn_at : (ss : List program.Statement) (n number : ℕ) (c : Claim) → (n < length (numbered ss)) × ((number, c) ≡ get_or (numbered ss) n (number, c)) → Turn ss n number c
turn_at ss n number c t =
    let cs = claims (statements_of ss) in
    let l = t.0 in
    let few : n < 16 = omega (arith, l, many_numbered ss) in
    let under : n < length cs = omega (arith, l, many_numbered ss) in
    let e = t.1 ∙ get_or-zip (range_with_len 0 16) (filter_map claim_at ss) n (number, c) few (subst⁻¹ (λ xs. n < length xs) (claims_are ss) under) in
    record {
      same = let z : number ≡ 0 + n = ap (λ p. p.0) e ∙ get_or-range_with_len 0 16 n number few in omega arith;
      few = few;
      long = length-take-le n cs (omega (arith, under));
      more = take_more cs n c under ∙ ap (λ x. take n cs ++ x ∷ []) (sym (ap (λ p. p.1) e ∙ ap (λ xs. get_or xs n c) (claims_are ss)));
    }

module _ {X : Type 0} (P : Claim → Type 0) (ss : List program.Statement) (gone : List X) where
  -- one more check is tried
  pub tried_more : (x : X) (number : ℕ) (c : Claim) (o r : Outcome) (flag good : Bool) → Turn ss (length gone) number c → flag ≡ is_flag c.mark → Decides good (P c) → r.failure ≡ first_of o.failure number (not flag && not good) → RaisesBit o.flags number (flag && good) r.flags
      → Tally P (take (length gone) (claims (statements_of ss))) o → Tally P (take (length (gone ++ x ∷ [])) (claims (statements_of ss))) r
  tried_more x number c o r flag good t mark decides failure raises tally =
      let cs = claims (statements_of ss) in
      subst⁻¹ (λ n. Tally P (take n cs) r) (length_push gone x)
      (subst⁻¹ (λ xs. Tally P xs r) t.more (tally_more P (take (length gone) cs) c o r number flag good (t.long ∙ sym t.same) mark decides failure raises tally))

  -- all are
  pub tried_all : (o : Outcome) → length gone ≡ length (numbered ss) → Tally P (take (length gone) (claims (statements_of ss))) o → length (claims (statements_of ss)) ≤ 16 → Tally P (claims (statements_of ss)) o
  tried_all o e tally few = subst (λ xs. Tally P xs o) (take_all (length gone) (claims (statements_of ss)) (omega (arith, e, many_numbered ss, few))) tally

-- the outcome of the checks of a text is that of the text
tally_judged : (base : Base) (ss : List Statement) (o : Outcome) → Tally (Good base (bindings_mean base [] ss)) (claims ss) o → Judged base ss o
tally_judged base ss o t =
    record {
      passes = (
        λ e k c at nf. t.passed e k c at nf,
        λ all. ⊎_elim (λ e. e) (λ e. let f = t.first e.0 e.1 in absurd (f.fails (all e.0 f.claim f.here f.no_flag))) (option_cases o.failure),
      );
      fails = t.first;
      flags = t.flags;
    }

pub judged : (base : given_base.Base) (ss : List Statement) (values : List Value) (o : Outcome) → Known base ss values → Totalled (base_meaning base) (map value_meaning values) ss o → WithinLimits ss → Judged (base_meaning base) ss o
judged base ss values o known total limits =
    let ks = map value_meaning values in
    let js = bindings_mean (base_meaning base) [] ss in
    let same = mean_same values js (known limits.denied limits.bindings) in
    tally_judged (base_meaning base) ss o
    (tally_as (Good (base_meaning base) ks) (Good (base_meaning base) js) (λ c. (good_as (base_meaning base) ks js same c, good_as (base_meaning base) js ks (same_all_sym ks js same) c)) (claims ss) o (total limits.checks))
