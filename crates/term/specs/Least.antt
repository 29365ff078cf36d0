-- The lowest of some places. Assumes nothing.
use Rattle.std.specs.Prelude.{◌≡◌, ℕ, ◌≤◌, min, Bool, cond, List, [], ◌∷◌, Some, None, Option}
use Rattle.finite.specs.Lists.{In}

-- a place if the test holds
abbrev pub fault_if : Bool → ℕ → List ℕ
fault_if b k = cond b (k ∷ []) []

-- the lower of two places
abbrev pub lower : Option ℕ → Option ℕ → Option ℕ
lower None b = b
lower (Some j) None = Some j
lower (Some j) (Some k) = Some (min j k)

-- the lowest of some places, computed
unfoldable pub least : List ℕ → Option ℕ
least [] = None
least (k ∷ ks) = lower (Some k) (least ks)

-- it is the lowest of them; or there is none
abbrev pub Lowest : List ℕ → Option ℕ → Type 0
Lowest ks None = ks ≡ []
Lowest ks (Some k) = In k ks × ((j : ℕ) → In j ks → k ≤ j)
