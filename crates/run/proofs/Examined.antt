-- The answer of a search for each rule makes the answer to the question whether a run is sound. Assumes nothing.
use Rattle.std.proofs.Common.{◌≡◌, ℕ, zero, suc, ◌+◌, ◌<◌, true, false, not, List, [], ◌∷◌, get_or, Some, None, Option, MatchOption, option_map, IsTrue, IfSome, IsSomeAnd, sym, refl, ap, ◌∙◌, subst, arith}
use Rattle.std.specs.Iterator.Runs.{ItemsMapTo, AllItemsGive, IsFirstToGive, CallKeepsClosure}
use Rattle.std.specs.Iterator.Runs as walk
use denote.Ref.{Bor}
use denote.Param.Members.{Mut, Called}
use Rattle.std.proofs.lemmas.Bool.Decides.{not_from_Decides}
use Rattle.run.specs.declared.event.Event.{Event}
use Rattle.run.specs.declared.rule.Rule.{Rule}
use Rattle.run.specs.declared.rule.Rule.TheVariants.{Ranges, Steps, Initials, Sources, Settlings, Initialised, Tied}
use Rattle.run.specs.Runs.{Run, Stands}
use Rattle.run.specs.declared.rule.Breach.{Breach}
use Rattle.run.specs.Rules.{Keeps, Kept, Sound, FirstBreach, Examined}
use Rattle.run.specs.Numbers.{rule_number}
use Rattle.run.specs.Tests.{holds, broken, faulty, LowestAt, Lowest}
use Rattle.run.proofs.Rules.{flag_decided, holds_decided, decided}

-- where no event is found at fault, the standing one keeps the rule
pub kept_at : (rule : Rule) (run : Run) (n : ℕ) (e : Event) → Stands run n e → faulty rule run n ≡ false → Keeps rule run n e
kept_at rule run n e stands clear =
    (decided rule run n e).0 (ap not (sym (ap (λ o. holds o (broken rule run n)) stands.1) ∙ clear))

-- a search that finds nothing says that the rule is kept
pub kept_from : (rule : Rule) (run : Run) → Lowest (faulty rule run) None → Kept rule run
kept_from rule run none n e stands = kept_at rule run n e stands (none n stands.0)

-- the rules in the order in which they are tried
abbrev pub in_order : List Rule
in_order = Ranges ∷ (Steps ∷ (Initials ∷ (Sources ∷ (Settlings ∷ (Initialised ∷ (Tied ∷ []))))))

-- the run keeps the rules below this place
abbrev pub KeptBelow : ℕ → Run → Type 0
KeptBelow i run = (k : ℕ) → k < i → Kept (get_or in_order k Ranges) run

-- a search that finds a number, after the rules before are kept, finds the first breach
pub breach_from : (rule : Rule) (run : Run) (k : ℕ) → ((earlier : Rule) → rule_number earlier < rule_number rule → Kept earlier run) → LowestAt (faulty rule run) k → FirstBreach run (record { rule = rule; event = k })
breach_from rule run k before found =
    let at = (holds_decided (run k) (broken rule run k) (λ e. broken rule run k e ≡ true) (λ e. flag_decided (broken rule run k e))).0 found.true_there in
    record {
      event = at.0;
      stands = (found.within, at.1);
      at_fault = not_from_Decides (not (broken rule run k at.0)) (decided rule run k at.0) (ap not at.2);
      lowest = λ n e lt stands. kept_at rule run n e stands (found.before n lt);
      first = before;
    }

-- each rule has its place in the order
pub listed : (rule : Rule) → (k : ℕ) × (k < 7) × (suc k ≡ rule_number rule) × (get_or in_order k Ranges ≡ rule)
listed Ranges = (0, omega arith, refl, refl)
listed Steps = (1, omega arith, refl, refl)
listed Initials = (2, omega arith, refl, refl)
listed Sources = (3, omega arith, refl, refl)
listed Settlings = (4, omega arith, refl, refl)
listed Initialised = (5, omega arith, refl, refl)
listed Tied = (6, omega arith, refl, refl)

-- the rule at each place has its number
pub numbered : (i : ℕ) → i < 7 → rule_number (get_or in_order i Ranges) ≡ suc i
numbered zero lt = refl
numbered (suc zero) lt = refl
numbered (suc (suc zero)) lt = refl
numbered (suc (suc (suc zero))) lt = refl
numbered (suc (suc (suc (suc zero)))) lt = refl
numbered (suc (suc (suc (suc (suc zero))))) lt = refl
numbered (suc (suc (suc (suc (suc (suc zero)))))) lt = refl
numbered (suc (suc (suc (suc (suc (suc (suc i))))))) lt = absurd (omega arith)

-- so the rules below a place are those with lower numbers
pub kept_lower : (i : ℕ) (run : Run) → KeptBelow i run → (rule : Rule) → rule_number rule < suc i → Kept rule run
kept_lower i run below rule lt =
    let at = listed rule in
    subst (λ r. Kept r run) at.3 (below at.0 (omega (arith, at.2)))

-- the run keeps every rule when it keeps those below the last place
pub all_kept : (run : Run) → KeptBelow 7 run → Sound run
all_kept run below rule = let at = listed rule in kept_lower 7 run below rule (omega (arith, at.1, at.2))

-- what is found at a place, with every rule below kept, is the first breach
pub first_breach : (i : ℕ) (run : Run) (k : ℕ) → i < 7 → KeptBelow i run → LowestAt (faulty (get_or in_order i Ranges) run) k → FirstBreach run (record { rule = get_or in_order i Ranges; event = k })
first_breach i run k lt below found =
    breach_from (get_or in_order i Ranges) run k (λ rule lower. kept_lower i run below rule (subst (λ n. rule_number rule < n) (numbered i lt) lower)) found

-- what the search for one rule answers: nothing, or the breach of it
abbrev pub Tried : Run → Rule → Option Breach → Type 0
Tried run rule None = Lowest (faulty rule run) None
Tried run rule (Some b) = (b.rule ≡ rule) × LowestAt (faulty rule run) b.event

-- an item of the walk is the rule at its place
met : (o : Option (Bor Rule)) (rule : Rule) (P : Bor Rule → Type 0) → option_map (λ x. x.now) o ≡ Some rule → IfSome o P → (x : Bor Rule) × (x.now ≡ rule) × P x
met None rule P is h = cc is
met (Some x) rule P is h = (x, cc is, h)

given : (o : Option (Bor Rule)) (P : Bor Rule → Type 0) → IsSomeAnd o P → IfSome o P
given None P h = absurd h
given (Some x) P h = h

module _ {S F : Type 0} {steps : S → Option (Bor Rule) → S → Type 0} {g : Mut F (Bor Rule × Unit {0}) (Option Breach)} {f : F} (run : Run) (p : walk.Run steps) (items : ItemsMapTo p (λ x. x.now) in_order) (keeps : CallKeepsClosure g f) (tries : (x : Bor Rule) (r : Option Breach) → Called g f (x, tt) r f → Tried run x.now r) where
  -- the walk's item at a place, of which the search answered
  at_place : (k : ℕ) (r : Option Breach) → k < p.len → IfSome (p.at k) (λ x. Called g f (x, tt) r f) → Tried run (get_or in_order k Ranges) r
  at_place k r lt h = let x = met (p.at k) _ _ (items.2 k Ranges lt) h in subst (λ rule. Tried run rule r) x.1 (tries x.0 r x.2)

  -- the walk through the rules with a search for each finds the first breach
  pub examined : (r : Option Breach) → MatchOption r (IsTrue p.whole × AllItemsGive p g f None) (λ y. (i : ℕ) × (i < p.len) × (p.len ≡ i + 1) × IsFirstToGive p g f (Some y) None i) → Examined run r
  examined None h = all_kept run (λ k lt. kept_from _ run (at_place k None (omega (arith, lt, items.1 h.0)) (h.1 keeps k)))
  examined (Some b) h =
      let first = h.3 keeps in
      let found = at_place h.0 (Some b) h.1 (given (p.at h.0) (λ x. Called g f (x, tt) (Some b) f) first.0) in
      let below : KeptBelow h.0 run = λ k lt. kept_from _ run (at_place k None (omega (arith, lt, h.1)) (given (p.at k) (λ x. Called g f (x, tt) None f) (first.1 k lt))) in
      let named : FirstBreach run (record { rule = get_or in_order h.0 Ranges; event = b.event }) = first_breach h.0 run b.event (omega (arith, h.1, items.0)) below found.1 in
      subst (λ rule. FirstBreach run (record { rule = rule; event = b.event })) (sym found.0) named
