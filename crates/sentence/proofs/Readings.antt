-- A text is read statement by statement. Assumes nothing.
use Rattle.std.proofs.Common.{◌≡◌, ℕ, ◌≤◌, Bool, true, false, List, [], ◌∷◌, ◌++◌, length, drop, Ok, Err, sym, refl, ap, ◌∙◌, subst, arith, drop_of_length-le}
use Rattle.std.specs.Int.{from_bool}
use Rattle.std.specs.Prelude.{◌↔◌, IsTrue}
use Rattle.sentence.specs.declared.sort.Sort.{Sort}
use Rattle.sentence.specs.declared.fault.SentenceFault.{SentenceFault}
use Rattle.sentence.specs.declared.fault.SentenceFault.TheVariants.{Memory, Place}
use Rattle.sentence.specs.declared.statement.Statement as statement
use Rattle.sentence.specs.Trees.{Sentence}
use Rattle.sentence.specs.Texts.{Writes}
use Rattle.sentence.specs.Looks.{StandsAt}
use Rattle.sentence.specs.Machine.{titles, speaks, begun, ready, blank, feed, accept, outcome}
use Rattle.sentence.specs.Statements.{GoesOn, GetsStuck, statement_of, statements_of}
use Rattle.sentence.specs.Laws.{Tells}
use Rattle.sentence.specs.Reading.{ReadAs}
use Rattle.sentence.proofs.Looked.{here, takes}
use Rattle.sentence.proofs.Looking.{not_so}
use Rattle.sentence.proofs.Heard
use Rattle.sentence.proofs.Phrases.{statements_last}
use Rattle.sentence.proofs.Refusals.{machine_told}

-- the sentence so far
abbrev pub so_far : Bool → List statement.Statement → Sentence
so_far b ss = record { titled = b; statements = statements_of ss }

-- the machine is ready with the sentence so far
pub record ReadingOn (ts : List Sort) (b : Bool) (ss : List statement.Statement) (at : ℕ) : Type 0 where
  pub leads : outcome begun 0 ts ≡ outcome (ready (so_far b ss)) at (drop at ts)
  pub within : at ≤ length ts

-- at first, behind a title or without one
reading_titled : (ts : List Sort) → StandsAt ts 0 (speaks titles) → ReadingOn ts true [] 1
unfolding feed
reading_titled ts e = record { leads = takes begun (ready (blank true)) ts 0 (speaks titles) e refl; within = omega (arith, here ts 0 (speaks titles) e) }

reading_plain : (ts : List Sort) → ¬ StandsAt ts 0 (speaks titles) → ReadingOn ts false [] 0
reading_plain ts e = record { leads = Heard.title_off ts 0 e; within = omega arith }

pub reading_first : (ts : List Sort) (b : Bool) (ss : List statement.Statement) (at : ℕ) → (IsTrue b ↔ StandsAt ts 0 (speaks titles)) → at ≡ from_bool b → ss ≡ [] → ReadingOn ts b ss at
reading_first ts b ss at e is none = subst (λ x. ReadingOn ts b x at) (sym none) (subst (λ k. ReadingOn ts b [] k) (sym is) (go b e))
  where
    go : (b : Bool) → (IsTrue b ↔ StandsAt ts 0 (speaks titles)) → ReadingOn ts b [] (from_bool b)
    go true e = reading_titled ts (e.0 refl)
    go false e = reading_plain ts (not_so false e refl)

-- one statement more
pub reading_more : (ts : List Sort) (b : Bool) (ss rs : List statement.Statement) (s : statement.Statement) (at next : ℕ) → ReadingOn ts b ss at → GoesOn (λ p. ready p) ts at (statement_of s) next → rs ≡ ss ++ (s ∷ []) → ReadingOn ts b rs next
reading_more ts b ss rs s at next h g same =
    subst (λ x. ReadingOn ts b x next) (sym same)
    (record {
      leads = h.leads ∙ g.leads (so_far b ss) ∙ ap (λ x. outcome (ready (record { titled = b; statements = x })) next (drop next ts)) (sym (statements_last ss s));
      within = g.within;
    })

-- all statements are read
pub reading_done : (ts : List Sort) (b : Bool) (ss : List statement.Statement) (at : ℕ) → ReadingOn ts b ss at → length ts ≤ at → Writes ts (so_far b ss)
unfolding outcome accept
reading_done ts b ss at h past =
    let e : outcome begun 0 ts ≡ Ok (so_far b ss) = h.leads ∙ ap (outcome (ready (so_far b ss)) at) (drop_of_length-le ts past) in
    subst (λ r. Tells ts r) e (machine_told ts)

-- a statement is at fault
pub reading_stuck : (ts : List Sort) (b : Bool) (ss : List statement.Statement) (at : ℕ) (f : SentenceFault) → ReadingOn ts b ss at → GetsStuck (λ p. ready p) ts at f → ReadAs ts (Err f)
reading_stuck ts b ss at Memory h g = tt
reading_stuck ts b ss at (Place k) h g = subst (λ r. Tells ts r) (h.leads ∙ g (so_far b ss)) (machine_told ts)
