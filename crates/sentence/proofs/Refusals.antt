-- Any sorts are a text or refused at one place, and the machine tells which. Assumes nothing.
use Rattle.std.proofs.Common.{◌≡◌, ℕ, suc, ◌+◌, ◌<◌, ◌≤◌, ◌⊎◌, List, [], ◌∷◌, ◌++◌, length, take, drop, Some, None, Ok, Err, Option, Result, sym, refl, ap, ◌∙◌, subst, inl, inr, append_assoc, add-one, arith, take-append-drop, take-take}
use Rattle.std.proofs.lemmas.Bool.{cases_lt}
use Rattle.sentence.specs.declared.sort.Sort.{Sort}
use Rattle.sentence.specs.Trees.{Sentence}
use Rattle.sentence.specs.Texts.{Writes, Text, Begins, RefusedAt}
use Rattle.sentence.specs.Machine.{State, begun, role, onto, feed, runs, accept, reads, told_end, told_on, outcome}
use Rattle.sentence.specs.Laws.{TextOrRefused, NotBoth, OnePlace, Tells, MachineTold, MachineTells, MachineBegins}
use Rattle.sentence.proofs.Complete.{read_written, one_tree}
use Rattle.sentence.proofs.Sound.{reads_append, reads_written}
use Rattle.sentence.proofs.Alive.{alive}

-- what the machine can take begins a text
pub runs_begins : (ts : List Sort) (c : State) → runs begun ts ≡ Some c → Begins ts
runs_begins ts c e =
    let a = alive c in
    (a.more, (a.sentence, reads_written (ts ++ a.more) a.sentence (reads_append ts a.more begun ∙ ap (λ f. onto f (λ d. reads d a.more)) e ∙ a.reads_so)))

-- and what it cannot take does not
pub stuck_begins_not : (ts : List Sort) → runs begun ts ≡ None → Begins ts → ⊥
stuck_begins_not ts e b =
    let x = b.1.0 in
    let r : reads begun (ts ++ b.0) ≡ Some x = read_written (ts ++ b.0) x b.1.1 in
    let n : None ≡ Some x = ap (λ f. onto f (λ d. reads d b.0)) (sym e) ∙ sym (reads_append ts b.0 begun) ∙ r in
    let z : ◌≡◌ {A = ℕ} 0 1 = cc in
    omega arith

-- the machine takes m of the sorts and no more, or all without accepting
record Stuck (c : State) (ts : List Sort) (m : ℕ) : Type 0 where
  state : State
  before : runs c (take m ts) ≡ Some state
  fault : ((m < length ts) × (runs c (take (suc m) ts) ≡ None)) ⊎ ((m ≡ length ts) × (reads c ts ≡ None))

-- one sort earlier
stuck_behind : (c : State) (s : Sort) (d : State) (ts : List Sort) (m : ℕ) → feed c (role s) ≡ Some d → Stuck d ts m → Stuck c (s ∷ ts) (suc m)
unfolding runs reads
stuck_behind c s d ts m e h =
    record {
      state = h.state;
      before = ap (λ f. onto f (λ d. runs d (take m ts))) e ∙ h.before;
      fault = go h.fault;
    }
  where
    go : ((m < length ts) × (runs d (take (suc m) ts) ≡ None)) ⊎ ((m ≡ length ts) × (reads d ts ≡ None)) →
        ((suc m < suc (length ts)) × (runs c (s ∷ take (suc m) ts) ≡ None)) ⊎ ((suc m ≡ suc (length ts)) × (reads c (s ∷ ts) ≡ None))
    go (inl f) = inl (omega arith, ap (λ f. onto f (λ d. runs d (take (suc m) ts))) e ∙ f.1)
    go (inr f) = inr (ap suc f.0, ap (λ f. onto f (λ d. reads d ts)) e ∙ f.1)

-- a refusal told is where the machine is stuck
outcome_stuck : (ts : List Sort) (c : State) (i k : ℕ) → outcome c i ts ≡ Err k → (m : ℕ) × (k ≡ i + m) × Stuck c ts m
unfolding outcome runs reads
outcome_stuck [] c i k h = go (accept c) refl h
  where
    go : (a : Option Sentence) → accept c ≡ a → told_end a i ≡ Err k → (m : ℕ) × (k ≡ i + m) × Stuck c [] m
    go None e h = let same : i ≡ k = cc in (0, omega arith, record { state = c; before = refl; fault = inr (refl, e) })
    go (Some x) e h = let no : ⊥ = cc in absurd no
outcome_stuck (s ∷ ts) c i k h = go (λ d. outcome_stuck ts d (suc i) k) (feed c (role s)) refl h
  where
    go : ((d : State) → outcome d (suc i) ts ≡ Err k → (m : ℕ) × (k ≡ suc i + m) × Stuck d ts m) → (f : Option State) → feed c (role s) ≡ f →
        told_on f i (λ d. outcome d (suc i) ts) ≡ Err k → (m : ℕ) × (k ≡ i + m) × Stuck c (s ∷ ts) m
    go ih None e h =
        let same : i ≡ k = cc in
        (0, omega arith, record { state = c; before = refl; fault = inl (omega arith, ap (λ f. onto f (λ d. runs d [])) e) })
    go ih (Some d) e h = let r = ih d h in (suc r.0, omega (arith, r.1), stuck_behind c s d ts r.0 e r.2)

-- a sentence told is the one read
outcome_reads : (ts : List Sort) (c : State) (i : ℕ) (x : Sentence) → outcome c i ts ≡ Ok x → reads c ts ≡ Some x
unfolding outcome reads
outcome_reads [] c i x h = go (accept c) h
  where
    go : (a : Option Sentence) → told_end a i ≡ Ok x → a ≡ Some x
    go None h = let no : ⊥ = cc in absurd no
    go (Some y) h = cc
outcome_reads (s ∷ ts) c i x h = go (λ d. outcome_reads ts d (suc i) x) (feed c (role s)) h
  where
    go : ((d : State) → outcome d (suc i) ts ≡ Ok x → reads d ts ≡ Some x) → (f : Option State) → told_on f i (λ d. outcome d (suc i) ts) ≡ Ok x → onto f (λ d. reads d ts) ≡ Some x
    go ih None h = let no : ⊥ = cc in absurd no
    go ih (Some d) h = ih d h

-- where the machine is stuck, the sorts are refused
stuck_refused : (ts : List Sort) (k : ℕ) → Stuck begun ts k → RefusedAt ts k
stuck_refused ts k h = record { before = runs_begins (take k ts) h.state h.before; fault = go h.fault }
  where
    go : ((k < length ts) × (runs begun (take (suc k) ts) ≡ None)) ⊎ ((k ≡ length ts) × (reads begun ts ≡ None)) →
        ((k < length ts) × (Begins (take (k + 1) ts) → ⊥)) ⊎ ((k ≡ length ts) × (Text ts → ⊥))
    go (inl f) = inl (f.0, rw (add-one k) (stuck_begins_not (take (suc k) ts) f.1))
    go (inr f) = inr (f.0, λ t. let r = read_written ts t.0 t.1 in let e = f.1 in let z : ◌≡◌ {A = ℕ} 0 1 = cc in omega arith)

pub machine_told : MachineTold
machine_told ts = go (outcome begun 0 ts) refl
  where
    go : (r : Result Sentence ℕ) → outcome begun 0 ts ≡ r → Tells ts r
    go (Ok x) e = reads_written ts x (outcome_reads ts begun 0 x e)
    go (Err k) e = let s = outcome_stuck ts begun 0 k e in let same : s.0 ≡ k = omega (arith, s.1) in subst (λ m. RefusedAt ts m) same (stuck_refused ts s.0 s.2)

-- what a text begins with begins a text
begins_part : (a b : List Sort) → Begins (a ++ b) → Begins a
begins_part a b h = (b ++ h.0, (h.1.0, subst (λ ts. Writes ts h.1.0) (append_assoc a b h.0) h.1.1))

begins_take : (ts : List Sort) (j k : ℕ) → j ≤ k → Begins (take k ts) → Begins (take j ts)
begins_take ts j k h b = rw (← take-take j k ts h) (begins_part (take j (take k ts)) (drop j (take k ts)) (rw (take-append-drop j (take k ts)) b))

text_begins : (ts : List Sort) (k : ℕ) → Text ts → Begins (take k ts)
text_begins ts k t = (drop k ts, rw (take-append-drop k ts) t)

-- a refusal stands within the sorts or at their end
refused_within : (ts : List Sort) (k : ℕ) → RefusedAt ts k → k ≤ length ts
refused_within ts k h = go h.fault
  where
    go : ((k < length ts) × (Begins (take (k + 1) ts) → ⊥)) ⊎ ((k ≡ length ts) × (Text ts → ⊥)) → k ≤ length ts
    go (inl f) = omega (arith, f.0)
    go (inr f) = omega (arith, f.0)

-- and what stands past it begins no text
refused_first : (ts : List Sort) (j k : ℕ) → RefusedAt ts j → j < k → k ≤ length ts → Begins (take k ts) → ⊥
refused_first ts j k h less within b = go h.fault
  where
    go : ((j < length ts) × (Begins (take (j + 1) ts) → ⊥)) ⊎ ((j ≡ length ts) × (Text ts → ⊥)) → ⊥
    go (inl f) = f.1 (begins_take ts (j + 1) k (omega arith) b)
    go (inr f) = omega (arith, f.0)

pub one_place : OnePlace
one_place ts j k g h = go (cases_lt j k) (cases_lt k j)
  where
    go : (j < k) ⊎ (k ≤ j) → (k < j) ⊎ (j ≤ k) → j ≡ k
    go (inl a) b = absurd (refused_first ts j k g a (refused_within ts k h) h.before)
    go (inr a) (inl b) = absurd (refused_first ts k j h b (refused_within ts j g) g.before)
    go (inr a) (inr b) = omega arith

pub not_both : NotBoth
not_both ts k t h = go h.fault
  where
    go : ((k < length ts) × (Begins (take (k + 1) ts) → ⊥)) ⊎ ((k ≡ length ts) × (Text ts → ⊥)) → ⊥
    go (inl f) = f.1 (text_begins ts (k + 1) t)
    go (inr f) = f.1 t

pub text_or_refused : TextOrRefused
text_or_refused ts = go (outcome begun 0 ts) (machine_told ts)
  where
    go : (r : Result Sentence ℕ) → Tells ts r → Text ts ⊎ ((k : ℕ) × RefusedAt ts k)
    go (Ok x) h = inl (x, h)
    go (Err k) h = inr (k, h)

-- so what is told is determined
pub machine_tells : MachineTells
machine_tells ts r h = go (outcome begun 0 ts) r (machine_told ts) h
  where
    go : (a r : Result Sentence ℕ) → Tells ts a → Tells ts r → a ≡ r
    go (Ok x) (Ok y) g h = ap Ok (one_tree ts x y g h)
    go (Ok x) (Err k) g h = absurd (not_both ts k (x, g) h)
    go (Err j) (Ok y) g h = absurd (not_both ts j (y, h) g)
    go (Err j) (Err k) g h = ap Err (one_place ts j k g h)

pub machine_begins : MachineBegins
machine_begins ts = (λ b. go b (runs begun ts) refl, λ c. runs_begins ts c.0 c.1)
  where
    go : Begins ts → (f : Option State) → runs begun ts ≡ f → (c : State) × (runs begun ts ≡ Some c)
    go b None e = absurd (stuck_begins_not ts e b)
    go b (Some c) e = (c, e)
