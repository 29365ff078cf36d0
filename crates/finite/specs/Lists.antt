-- Lists as finite sets: what is in a list, that nothing is in it twice, and what stands at a place. Assumes nothing.
use Rattle.std.specs.Prelude.{◌≡◌, ℕ, zero, suc, ◌⊎◌, List, [], ◌∷◌}

module _ {A : Type 0} where
  -- The thing is in the list.
  abbrev pub In : A → List A → Type 0
  In x [] = ⊥
  In x (y ∷ ys) = (x ≡ y) ⊎ In x ys

  -- No item is in the list twice.
  abbrev pub Apart : List A → Type 0
  Apart [] = Unit {0}
  Apart (x ∷ xs) = (In x xs → ⊥) × Apart xs

  -- The thing stands in the list at the place, counted from 0.
  abbrev pub At : List A → ℕ → A → Type 0
  At [] i x = ⊥
  At (y ∷ ys) zero x = x ≡ y
  At (y ∷ ys) (suc i) x = At ys i x
