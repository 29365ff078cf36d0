-- Checks: when one holds, when an order passes, which flags it raises. Assumes nothing.
use Rattle.std.specs.Prelude.{◌≡◌, ℕ, ◌<◌, Bool, true, false, List, []}
use Rattle.finite.specs.Lists.{At}
use Rattle.run.specs.Runs.{Run}
use Rattle.coherence.specs.Coherence.{Order}
use Rattle.relation.specs.Sets.{Vacant}
use Rattle.relation.specs.Relations.{Empty, Irreflexive, Acyclic}
use Rattle.relation.specs.Values.{Meaning, of_events, of_pairs}
use Rattle.term.specs.Statements.{Mark, plain, labelled, flagged, Claim, Statement, Word, acyclic, irreflexive, empty, claims}
use Rattle.meaning.specs.Operators.{pairs_of}
use Rattle.given.specs.Givens.{given_meaning}
use Rattle.meaning.specs.Meanings.{Base, meaning}
use Rattle.meaning.specs.Groups.{bindings_mean}

-- it has nothing in it
abbrev pub Nothing : Meaning → Type 0
Nothing (of_events A) = Vacant A
Nothing (of_pairs R) = Empty R

-- what each check word asks
abbrev pub Asked : Word → Meaning → Type 0
Asked acyclic m = Acyclic (pairs_of m)
Asked irreflexive m = Irreflexive (pairs_of m)
Asked empty m = Nothing m

-- a negated check holds exactly where it would not hold without
abbrev pub Turned : Bool → Type 0 → Type 0
Turned false P = P
Turned true P = P → ⊥

-- it is a flag
abbrev pub is_flag : Mark → Bool
is_flag plain = false
is_flag (labelled label) = false
is_flag (flagged label) = true

-- a check of a text holds, by what is given
abbrev pub Holds : Base → List Statement → Claim → Type 0
Holds base ss c = Turned c.negated (Asked c.word (meaning base (bindings_mean base [] ss) c.term))

-- every check without flag holds
abbrev pub AllHold : Base → List Statement → Type 0
AllHold base ss = (k : ℕ) (c : Claim) → At (claims ss) k c → is_flag c.mark ≡ false → Holds base ss c

-- check k of some is a flag, and is as it should be
pub record Raised (P : Claim → Type 0) (cs : List Claim) (k : ℕ) : Type 0 where
  pub claim : Claim
  pub here : At cs k claim
  pub flag : is_flag claim.mark ≡ true
  pub holds : P claim

-- check k of some is the first without flag that is not as it should be
pub record First (P : Claim → Type 0) (cs : List Claim) (k : ℕ) : Type 0 where
  pub claim : Claim
  pub here : At cs k claim
  pub no_flag : is_flag claim.mark ≡ false
  pub fails : P claim → ⊥
  pub before : (j : ℕ) (c : Claim) → j < k → At cs j c → is_flag c.mark ≡ false → P c

-- check k is a flag, and holds
abbrev pub FlagHolds : Base → List Statement → ℕ → Type 0
FlagHolds base ss k = Raised (Holds base ss) (claims ss) k

-- check k is the first without flag that does not hold
abbrev pub FirstFailure : Base → List Statement → ℕ → Type 0
FirstFailure base ss k = First (Holds base ss) (claims ss) k

-- an order passes under a run: every check without flag holds
abbrev pub Passes : List Statement → Run → Order → Type 0
Passes ss run co = AllHold (given_meaning run co) ss

-- it raises the flag that is check k
abbrev pub Raises : List Statement → Run → Order → ℕ → Type 0
Raises ss run co k = FlagHolds (given_meaning run co) ss k

-- check k is the first without flag that it breaks
abbrev pub BreaksFirst : List Statement → Run → Order → ℕ → Type 0
BreaksFirst ss run co k = FirstFailure (given_meaning run co) ss k
