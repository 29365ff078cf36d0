-- A test at the numbers below a bound. Assumes nothing.
use Rattle.std.proofs.Common.{◌≡◌, ℕ, zero, suc, ◌<◌, Bool, refl, arith}
use Rattle.run.specs.Tests.{any_below}

-- tests that agree below a bound come out alike below it
pub any_same : (p q : ℕ → Bool) (n : ℕ) → ((m : ℕ) → m < n → p m ≡ q m) → any_below p n ≡ any_below q n
unfolding any_below
any_same p q zero same = refl
any_same p q (suc n) same = rw (same n (omega arith), any_same p q n (λ m lt. same m (omega arith))) refl
