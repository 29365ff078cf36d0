-- The sort at a place is the first of what is left there. Assumes nothing.
use Rattle.std.proofs.Common.{◌≡◌, ℕ, zero, suc, ◌≤◌, Bool, true, false, List, [], ◌∷◌, length, drop, Some, None, Ok, Err, Option, Result, sym, refl, ap, subst, drop_of_length-le}
use Rattle.std.specs.Option.{ok_or}
use Rattle.std.specs.Prelude.{◌↔◌, IsTrue, IsErr, IsErrAnd}
use Rattle.sentence.specs.declared.fault.SentenceFault.{SentenceFault}
use Rattle.sentence.specs.declared.sort.Sort.{Sort}
use Rattle.sentence.specs.Looks.{first_role}

pub first_none : (ts : List Sort) (at : ℕ) → length ts ≤ at → None ≡ first_role (drop at ts)
first_none ts at h = sym (ap first_role (drop_of_length-le ts h))

-- what stands behind the first sort
abbrev pub behind_first : List Sort → List Sort
behind_first [] = []
behind_first (s ∷ rest) = rest

pub behind_drop : (n : ℕ) (ts : List Sort) → behind_first (drop n ts) ≡ drop (suc n) ts
behind_drop zero [] = refl
behind_drop zero (s ∷ ts) = refl
behind_drop (suc n) [] = refl
behind_drop (suc n) (s ∷ ts) = behind_drop n ts

-- a test that failed
pub not_so : {P : Type 0} (b : Bool) → (IsTrue b ↔ P) → b ≡ false → P → ⊥
not_so b e h p = let t : b ≡ true = e.1 p in cc

-- where nothing is found, the place is at fault
pub lacked : {X : Type 0} (P : SentenceFault → Type 0) {f g : SentenceFault} {o : Option X} → Err f ≡ ok_or o g → o ≡ None → P g → P f
lacked P {f} {g} {o = Some x} e n h = let no : ⊥ = cc in absurd no
lacked P {f} {g} {o = None} e n h = subst P (let same : g ≡ f = cc in same) h

-- a fault that `?` hands on
pub handed : {T : Type 0} (P : Result T SentenceFault → Type 0) (r : Result T SentenceFault) (f : SentenceFault) → IsErr r × IsErrAnd r (λ y. y ≡ f) → P (Err f) → P r
handed P (Ok x) f h g = absurd h.1
handed P (Err y) f h g = subst (λ x. P (Err x)) (sym h.1) g
