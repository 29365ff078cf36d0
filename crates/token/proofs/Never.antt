-- What cannot be. Assumes nothing.
use Rattle.std.proofs.Common.{◌≡◌, ℕ, Bool, true, false, refl, arith}

-- two things that are not one came out equal
pub no_way : {A : Type 0} → ◌≡◌ {A = ℕ} 0 1 → A
no_way e = absurd (omega arith)

-- a test that cannot hold
pub stays_false : (b : Bool) → (b ≡ true → ⊥) → b ≡ false
stays_false true h = absurd (h refl)
stays_false false h = refl
