-- What comes of trying the checks of a text. Assumes nothing.
use Rattle.std.specs.Prelude.{◌≡◌, ℕ, ◌≤◌, Bool, true, false, ◌⊎◌, ◌↔◌, List, [], length, Some, None, Option}
use Rattle.finite.specs.Lists.{At}
use Rattle.relation.specs.Masks.{Member}
use Rattle.relation.specs.Values.{Meaning}
use Rattle.term.specs.Statements.{Claim, Statement, lets, groups, checks, claims}
use Rattle.term.specs.Recursion.{all_denied, many_bindings}
use Rattle.meaning.specs.declared.outcome.Outcome.{Outcome}
use Rattle.meaning.specs.Meanings.{Base, meaning}
use Rattle.meaning.specs.Checks.{Asked, Turned, is_flag, Raised, First, AllHold, FlagHolds, FirstFailure}

-- a check holds, where the bindings have these meanings
abbrev pub Good : Base → List Meaning → Claim → Type 0
Good base known c = Turned c.negated (Asked c.word (meaning base known c.term))

-- the failure that is kept: the first
abbrev pub first_of : Option ℕ → ℕ → Bool → Option ℕ
first_of (Some k) number fails = Some k
first_of None number true = Some number
first_of None number false = None

-- the bits that are raised: those that were, and the one of the number if it is up
abbrev pub RaisesBit : ℕ → ℕ → Bool → ℕ → Type 0
RaisesBit old number up new = (k : ℕ) → Member new k ↔ (Member old k ⊎ ((up ≡ true) × (k ≡ number)))

-- the outcome of some checks
pub record Tally (P : Claim → Type 0) (cs : List Claim) (o : Outcome) : Type 0 where
  pub passed : o.failure ≡ None → (k : ℕ) (c : Claim) → At cs k c → is_flag c.mark ≡ false → P c
  pub first : (k : ℕ) → o.failure ≡ Some k → First P cs k
  pub flags : (k : ℕ) → Member o.flags k ↔ Raised P cs k

-- the check that a statement is
abbrev pub claim_in : Statement → Option Claim
claim_in (lets b) = None
claim_in (groups bs) = None
claim_in (checks c) = Some c

-- the outcome of the checks of a text, if they are at most 16
abbrev pub Totalled : Base → List Meaning → List Statement → Outcome → Type 0
Totalled base known ss o = length (claims ss) ≤ 16 → Tally (Good base known) (claims ss) o

-- what is asked of a text: no name is denied in its group, at most 64 names are bound, and at most 16 checks
pub record WithinLimits (ss : List Statement) : Type 0 where
  pub denied : all_denied 0 ss ≡ []
  pub bindings : many_bindings ss ≤ 64
  pub checks : length (claims ss) ≤ 16

-- the outcome is that of the text: no failure exactly where every check without flag holds, else the first that does not; and a bit for each flag that holds
pub record Judged (base : Base) (ss : List Statement) (o : Outcome) : Type 0 where
  pub passes : (o.failure ≡ None) ↔ AllHold base ss
  pub fails : (k : ℕ) → o.failure ≡ Some k → FirstFailure base ss k
  pub flags : (k : ℕ) → Member o.flags k ↔ FlagHolds base ss k
