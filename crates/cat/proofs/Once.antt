-- A text has one answer: reading goes by stages, each of which either refuses at one place or goes on with one thing. Assumes nothing.
use Rattle.std.proofs.Common.{◌≡◌, ℕ, true, false, ◌⊎◌, List, [], Some, Ok, Err, Result, sym, refl, ap, ◌∙◌, subst, inl, inr, ⊎_elim, le_antisymm, arith}
use Rattle.std.proofs.lemmas.Bool.{cases_order}
use Rattle.finite.specs.Lists.{In}
use Rattle.token.specs.declared.fault.ReadFault.{ReadFault}
use Rattle.token.specs.declared.fault.ReadFault.TheVariants as lexing
use Rattle.token.specs.Lexings.{Told as LexedAs}
use Rattle.token.proofs.Unique.{one_answer}
use Rattle.sentence.specs.declared.sort.Sort.{Sort}
use Rattle.sentence.specs.Texts.{Writes, RefusedAt}
use Rattle.sentence.specs.Trees.{Sentence}
use Rattle.sentence.proofs.Complete.{one_tree}
use Rattle.sentence.proofs.Refusals.{one_place, not_both}
use Rattle.term.specs.Statements.{Statement}
use Rattle.term.specs.Least.{Lowest}
use Rattle.term.specs.Names.{name_faults}
use Rattle.term.specs.Kinds.{all_kinds}
use Rattle.term.specs.Recursion.{all_denied}
use Rattle.cat.specs.declared.fault.ModelFault.{ModelFault}
use Rattle.cat.specs.declared.fault.ModelFault.TheVariants as fault
use Rattle.cat.specs.Faults.{of_lexing}
use Rattle.cat.specs.Sorts.{Tokens, sorts_of}
use Rattle.cat.specs.Limits.{WithinLimits, FirstOver}
use Rattle.cat.specs.Resolving.{resolved_statements}
use Rattle.cat.specs.Readings.{Lexed, place_of, Resolves, Told, OneReading}

-- the statements, or a fault
abbrev Answer : Type 0
Answer = Result (List Statement) ModelFault

-- a stage: something good with which reading goes on, or something bad that is refused
abbrev Stage : {X Y : Type 0} → (X → Type 0) → (Y → Type 0) → (Y → ModelFault) → (X → Answer → Type 0) → Answer → Type 0
Stage {X} {Y} Good Bad as-fault Next r = ((x : X) × Good x × Next x r) ⊎ ((y : Y) × Bad y × (r ≡ Err (as-fault y)))

-- where the good and the bad exclude each other, and each is one, the stage has one answer if the rest has
stage_one : {X Y : Type 0} (Good : X → Type 0) (Bad : Y → Type 0) (as-fault : Y → ModelFault) (Next : X → Answer → Type 0) →
    ((x z : X) → Good x → Good z → x ≡ z) → ((x : X) (y : Y) → Good x → Bad y → ⊥) → ((y z : Y) → Bad y → Bad z → y ≡ z) →
    ((x : X) (r s : Answer) → Good x → Next x r → Next x s → r ≡ s) → (r s : Answer) → Stage Good Bad as-fault Next r → Stage Good Bad as-fault Next s → r ≡ s
stage_one Good Bad as-fault Next one apart also rest r s (inl (x, g, n)) (inl (z, h, m)) = rest x r s g n (subst (λ w. Next w s) (sym (one x z g h)) m)
stage_one Good Bad as-fault Next one apart also rest r s (inl (x, g, n)) (inr (y, b, e)) = absurd (apart x y g b)
stage_one Good Bad as-fault Next one apart also rest r s (inr (y, b, e)) (inl (x, g, n)) = absurd (apart x y g b)
stage_one Good Bad as-fault Next one apart also rest r s (inr (y, b, e)) (inr (z, d, f)) = e ∙ ap (λ w. Err (as-fault w)) (also y z b d) ∙ sym f

-- the lowest fault is one, and there is none where there is no fault
lowest_one : (ks : List ℕ) (j k : ℕ) → Lowest ks (Some j) → Lowest ks (Some k) → j ≡ k
lowest_one ks j k h g = le_antisymm (h.1 k g.0) (g.1 j h.0)

lowest_none : (ks : List ℕ) (k : ℕ) → ks ≡ [] → Lowest ks (Some k) → ⊥
lowest_none ks k e h = subst (λ x. In k x) e h.0

-- the first token past a limit is one, and there is none within the limits
over_one : (ts : List Sort) (j k : ℕ) → FirstOver ts j → FirstOver ts k → j ≡ k
over_one ts j k h g =
    ⊎_elim (λ e. e) (⊎_elim (λ lt. absurd (clash (sym h.here ∙ g.before j lt))) (λ lt. absurd (clash (sym g.here ∙ h.before k lt)))) (cases_order j k)
  where
    clash : true ≡ false → ⊥
    clash e = let z : ◌≡◌ {A = ℕ} 0 1 = cc in omega arith

over_none : (ts : List Sort) (k : ℕ) → WithinLimits ts → FirstOver ts k → ⊥
over_none ts k h g = let e : true ≡ false = sym g.here ∙ h k in let z : ◌≡◌ {A = ℕ} 0 1 = cc in omega arith

-- the stages of reading, from the last to the first
abbrev Recursed : List ℕ → Tokens → List Statement → Answer → Type 0
Recursed text found ss = Stage {X = Unit {0}} (λ u. all_denied 0 ss ≡ []) (λ k. Lowest (all_denied 0 ss) (Some k)) (λ k. fault.Recursion (place_of text found k)) (λ u r. r ≡ Ok ss)

abbrev Kinded : List ℕ → Tokens → List Statement → Answer → Type 0
Kinded text found ss = Stage {X = Unit {0}} (λ u. all_kinds [] ss ≡ []) (λ k. Lowest (all_kinds [] ss) (Some k)) (λ k. fault.Kind (place_of text found k)) (λ u. Recursed text found ss)

abbrev Named : List ℕ → Tokens → List Statement → Answer → Type 0
Named text found ss = Stage {X = Unit {0}} (λ u. name_faults ss ≡ []) (λ k. Lowest (name_faults ss) (Some k)) (λ k. fault.Name (place_of text found k)) (λ u. Kinded text found ss)

abbrev Limited : List ℕ → Tokens → Sentence → Answer → Type 0
Limited text found x = Stage {X = Unit {0}} (λ u. WithinLimits (sorts_of found)) (FirstOver (sorts_of found)) (λ k. fault.Limit (place_of text found k)) (λ u. Named text found (resolved_statements found x))

abbrev Written : List ℕ → Tokens → Answer → Type 0
Written text found = Stage (Writes (sorts_of found)) (RefusedAt (sorts_of found)) (λ k. fault.Sentence (place_of text found k)) (Limited text found)

abbrev Staged : List ℕ → Answer → Type 0
Staged text = Stage (Lexed text) (λ e. LexedAs text (Err e) × (e ≡ lexing.Memory → ⊥)) of_lexing (Written text)

-- a stage with one good thing only and faults by their lowest place
faults_one : (faults : List ℕ) (as-fault : ℕ → ModelFault) (Next : Answer → Type 0) → ((r s : Answer) → Next r → Next s → r ≡ s) → (r s : Answer) → Stage {X = Unit {0}} (λ u. faults ≡ []) (λ k. Lowest faults (Some k)) as-fault (λ u. Next) r → Stage {X = Unit {0}} (λ u. faults ≡ []) (λ k. Lowest faults (Some k)) as-fault (λ u. Next) s → r ≡ s
faults_one faults as-fault Next rest =
    stage_one {X = Unit {0}} (λ u. faults ≡ []) (λ k. Lowest faults (Some k)) as-fault (λ u. Next) (λ x z g h. refl) (λ x k. lowest_none faults k) (lowest_one faults) (λ u r s g. rest r s)

named_one : (text : List ℕ) (found : Tokens) (ss : List Statement) (r s : Answer) → Named text found ss r → Named text found ss s → r ≡ s
named_one text found ss =
    faults_one (name_faults ss) (λ k. fault.Name (place_of text found k)) (Kinded text found ss)
    (faults_one (all_kinds [] ss) (λ k. fault.Kind (place_of text found k)) (Recursed text found ss)
    (faults_one (all_denied 0 ss) (λ k. fault.Recursion (place_of text found k)) (λ r. r ≡ Ok ss) (λ r s e f. e ∙ sym f)))

limited_one : (text : List ℕ) (found : Tokens) (x : Sentence) (r s : Answer) → Limited text found x r → Limited text found x s → r ≡ s
limited_one text found x =
    stage_one {X = Unit {0}} (λ u. WithinLimits (sorts_of found)) (FirstOver (sorts_of found)) (λ k. fault.Limit (place_of text found k)) (λ u. Named text found (resolved_statements found x)) (λ u v g h. refl) (λ u k. over_none (sorts_of found) k)
    (over_one (sorts_of found)) (λ u r s g. named_one text found (resolved_statements found x) r s)

written_one : (text : List ℕ) (found : Tokens) (r s : Answer) → Written text found r → Written text found s → r ≡ s
written_one text found =
    stage_one (Writes (sorts_of found)) (RefusedAt (sorts_of found)) (λ k. fault.Sentence (place_of text found k)) (Limited text found) (one_tree (sorts_of found)) (λ x k w. not_both (sorts_of found) k (x, w)) (one_place (sorts_of found))
    (λ x r s w. limited_one text found x r s)

-- what the lexer tells, as one answer
no_memory : (found : Tokens) → ◌≡◌ {A = Result Tokens ReadFault} (Ok found) (Err lexing.Memory) → ⊥
no_memory found e = let z : ◌≡◌ {A = ℕ} 0 1 = cc in omega arith

other_fault : (e : ReadFault) → (e ≡ lexing.Memory → ⊥) → ◌≡◌ {A = Result Tokens ReadFault} (Err e) (Err lexing.Memory) → ⊥
other_fault e h is = h (let z : e ≡ lexing.Memory = cc in z)

told_lexed : (text : List ℕ) (found : Tokens) → Lexed text found → LexedAs text (Ok found)
told_lexed text found h = (h.short, h.lexes, h.few)

staged_one : (text : List ℕ) (r s : Answer) → Staged text r → Staged text s → r ≡ s
staged_one text =
    stage_one (Lexed text) (λ e. LexedAs text (Err e) × (e ≡ lexing.Memory → ⊥)) of_lexing (Written text)
    (λ x z g h. let same = one_answer text (Ok x) (Ok z) (told_lexed text x g) (told_lexed text z h) (no_memory x) (no_memory z) in let e : x ≡ z = cc in e)
    (λ x e g b. let same = one_answer text (Ok x) (Err e) (told_lexed text x g) b.0 (no_memory x) (other_fault e b.1) in let z : ◌≡◌ {A = ℕ} 0 1 = cc in omega arith)
    (λ e f b d. let same = one_answer text (Err e) (Err f) b.0 d.0 (other_fault e b.1) (other_fault f d.1) in let z : e ≡ f = cc in z)
    (λ x r s g. written_one text x r s)

-- statements whose names are resolved have come so far
from_resolved : (text : List ℕ) (found : Tokens) (ss : List Statement) (r : Answer) → Resolves text found ss → Named text found ss r → Staged text r
from_resolved text found ss r h n = inl (found, h.phrased.lexed, inl (h.sentence, h.phrased.writes, inl (tt, h.within, subst (λ x. Named text found x r) h.are n)))

-- an answer goes by the stages
staged : (text : List ℕ) (r : Answer) → Told text r → (r ≡ Err fault.Memory → ⊥) → Staged text r
staged text (Ok ss) h m = from_resolved text h.found ss (Ok ss) h.resolves (inl (tt, h.formed.0.0, inl (tt, h.formed.0.1, inl (tt, h.formed.1, refl))))
staged text (Err fault.TooLong) h m = inr (lexing.TooLong, (h, λ e. let z : ◌≡◌ {A = ℕ} 0 1 = cc in omega arith), refl)
staged text (Err (fault.Stray p)) h m = inr (lexing.Stray p, (h, λ e. let z : ◌≡◌ {A = ℕ} 0 1 = cc in omega arith), refl)
staged text (Err (fault.TooManyTokens p)) h m = inr (lexing.TooManyTokens p, (h, λ e. let z : ◌≡◌ {A = ℕ} 0 1 = cc in omega arith), refl)
staged text (Err (fault.Sentence p)) h m = inl (h.found, h.lexed, inr (h.token, h.refused, ap (λ n. Err (fault.Sentence n)) h.here))
staged text (Err (fault.Limit p)) h m = inl (h.found, h.phrased.lexed, inl (h.sentence, h.phrased.writes, inr (h.token, h.over, ap (λ n. Err (fault.Limit n)) h.here)))
staged text (Err (fault.Name p)) h m = from_resolved text h.found h.statements (Err (fault.Name p)) h.resolves (inr (h.token, h.lowest, ap (λ n. Err (fault.Name n)) h.here))
staged text (Err (fault.Kind p)) h m = from_resolved text h.found h.statements (Err (fault.Kind p)) h.resolves (inl (tt, h.clear, inr (h.token, h.lowest, ap (λ n. Err (fault.Kind n)) h.here)))
staged text (Err (fault.Recursion p)) h m =
    from_resolved text h.found h.statements (Err (fault.Recursion p)) h.resolves (inl (tt, h.clear.0, inl (tt, h.clear.1, inr (h.token, h.lowest, ap (λ n. Err (fault.Recursion n)) h.here))))
staged text (Err fault.Memory) h m = absurd (m refl)

-- so it is one
pub one_reading : (text : List ℕ) → OneReading text
one_reading text r s h k m n = staged_one text r s (staged text r h m) (staged text s k n)
