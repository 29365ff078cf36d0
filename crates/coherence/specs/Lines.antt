-- The lines of a location's writes, and the order that they make, computed. Assumes nothing.
use Rattle.std.specs.Prelude.{◌≡◌, ℕ, zero, suc, Bool, false, cond, not, ◌&&◌, ◌||◌, ◌⊎◌, List, [], ◌∷◌, ◌++◌, ◌==◌}
use Rattle.run.specs.declared.event.Event.{Event}
use Rattle.run.specs.Runs.{Run}
use Rattle.run.specs.Tests.{any_below, holds, is_initial}
use Rattle.finite.specs.Lists.{In}
use Rattle.coherence.specs.Coherence.{Order}

-- where a write stands in the line of its location: an initial one first, a settled one last, a free one between
pub data Role : Type 0 where
  First : Role
  Free : Role
  Last : Role

-- the event is a write of the location in this role
abbrev pub role_test : Role → ℕ → Event → Bool
role_test First l e = is_initial e && e.location == l
role_test Free l e = e.kind == 1 && (not e.settled && e.location == l)
role_test Last l e = e.kind == 1 && (e.settled && e.location == l)

-- such an event stands at n
abbrev pub chosen : Role → Run → ℕ → ℕ → Bool
chosen role run l n = holds (run n) (role_test role l)

-- the numbers below a bound that pass a test, rising
unfoldable pub those : (ℕ → Bool) → ℕ → List ℕ
those p zero = []
those p (suc n) = those p n ++ cond (p n) (n ∷ []) []

-- the writes of a location in one role, rising
abbrev pub group : Role → Run → ℕ → List ℕ
group role run l = those (chosen role run l) 32

-- the whole line of a location: its free writes as the row has them, the initial write before and a settled one after
abbrev pub line : Run → ℕ → List ℕ → List ℕ
line run l row = group First run l ++ (row ++ group Last run l)

-- a number is in a list
unfoldable pub member : ℕ → List ℕ → Bool
member a [] = false
member a (x ∷ xs) = a == x || member a xs

-- one number stands before another in a list
abbrev pub Precedes : List ℕ → ℕ → ℕ → Type 0
Precedes [] a b = ⊥
Precedes (x ∷ xs) a b = ((a ≡ x) × In b xs) ⊎ Precedes xs a b

-- the same, computed
unfoldable pub precedes : List ℕ → ℕ → ℕ → Bool
precedes [] a b = false
precedes (x ∷ xs) a b = (a == x && member b xs) || precedes xs a b

-- the order that sixteen lines make
abbrev pub order_of : (ℕ → List ℕ) → Order
order_of lines a b = any_below (λ l. precedes (lines l) a b) 16
