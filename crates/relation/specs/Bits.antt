-- The bits of a mask, place by place, and the events that a mask has. Assumes nothing.
use Rattle.std.specs.Prelude.{◌≡◌, ℕ, zero, suc, ◌-◌, ◌*◌, ◌/◌, ◌%◌, ◌^◌, ◌<◌, ◌≤◌, ◌⊎◌, ◌↔◌, ◌≢◌, refl}
use Rattle.std.proofs.Common.{sym, ◌∙◌, ap, ap₂, inl, inr, ⊎_elim, arith, pow-suc, one-add}
use Rattle.std.proofs.Math.Nat.{zero-div}
use Rattle.std.specs.Int.Bits.{bit_and, bit_or, or_add_and}
use Rattle.std.proofs.lemmas.Nat.{and_shr, or_shr, and_mod, or_mod, or_lt, and_le_r, one_shl, shr-shr, pow_pos}
use Rattle.std.proofs.lemmas.Bool.{cases_eq}
use Rattle.relation.specs.Masks.{bit, Member}

-- a remainder by two is one or nothing
pub odd_or_even : (x : ℕ) → (x % 2 ≡ 0) ⊎ (x % 2 ≡ 1)
odd_or_even x = ⊎_elim inl (λ n. inr (omega arith)) (cases_eq (x % 2) 0)

-- a bit is one or nothing
pub bit_cases : (x n : ℕ) → (bit x n ≡ 0) ⊎ (bit x n ≡ 1)
bit_cases x n = odd_or_even (x / 2 ^ n)

-- the lowest bit
pub bit_zero : (x : ℕ) → bit x 0 ≡ x % 2
bit_zero x = omega arith

-- a higher bit is a bit of the half
pub bit_suc : (x n : ℕ) → bit x (suc n) ≡ bit (x / 2) n
bit_suc x n = ap (λ z. z % 2) (sym (shr-shr x 1 n ∙ ap (λ m. x / 2 ^ m) (one-add n)))

-- nothing has no bit
pub bit_nothing : (n : ℕ) → bit 0 n ≡ 0
bit_nothing n = ap (λ z. z % 2) (zero-div (2 ^ n))

-- the bit of a union
pub bit_of_or : (x y n : ℕ) → bit (bit_or x y) n ≡ bit_or (bit x n) (bit y n)
bit_of_or x y n = ap (λ z. z % 2) (or_shr x y n) ∙ or_mod (x / 2 ^ n) (y / 2 ^ n) 1

-- the bit of an intersection
pub bit_of_and : (x y n : ℕ) → bit (bit_and x y) n ≡ bit_and (bit x n) (bit y n)
bit_of_and x y n = ap (λ z. z % 2) (and_shr x y n) ∙ and_mod (x / 2 ^ n) (y / 2 ^ n) 1

-- the bit of what a number lacks to all ones
pub bit_lacks : (k n y : ℕ) → n < k → y < 2 ^ k → bit (2 ^ k - 1 - y) n ≡ 1 - bit y n
bit_lacks zero n y h l = omega arith
bit_lacks (suc k) zero y h l = omega (arith, pow-suc 2 k, pow_pos k)
bit_lacks (suc k) (suc n) y h l =
    let e = pow-suc 2 k in
    let p = pow_pos k in
    let half : (2 ^ suc k - 1 - y) / 2 ≡ 2 ^ k - 1 - y / 2 = omega arith in
    let less : y / 2 < 2 ^ k = omega arith in
    let lower : n < k = omega arith in
    bit_suc (2 ^ suc k - 1 - y) n ∙ ap (λ z. bit z n) half ∙ bit_lacks k n (y / 2) lower less ∙ ap (λ z. 1 - z) (sym (bit_suc y n))

-- a power of two has its own bit
pub bit_power : (a : ℕ) → bit (2 ^ a) a ≡ 1
bit_power zero = refl
bit_power (suc a) = let e : 2 ^ suc a / 2 ≡ 2 ^ a = omega (arith, pow-suc 2 a) in bit_suc (2 ^ suc a) a ∙ ap (λ z. bit z a) e ∙ bit_power a

-- and no other
pub bit_other : (a n : ℕ) → (n ≢ a) → bit (2 ^ a) n ≡ 0
bit_other zero zero h = absurd (h refl)
bit_other zero (suc n) h = bit_suc 1 n ∙ bit_nothing n
bit_other (suc a) zero h = omega (arith, pow-suc 2 a)
bit_other (suc a) (suc n) h =
    let e : 2 ^ suc a / 2 ≡ 2 ^ a = omega (arith, pow-suc 2 a) in
    bit_suc (2 ^ suc a) n ∙ ap (λ z. bit z n) e ∙ bit_other a n (λ same. h (ap suc same))

-- numbers with the same bits are the same
pub same_bits : (k x y : ℕ) → x < 2 ^ k → y < 2 ^ k → ((n : ℕ) → n < k → bit x n ≡ bit y n) → x ≡ y
same_bits zero x y h l same = omega arith
same_bits (suc k) x y h l same =
    let e = pow-suc 2 k in
    let low : x % 2 ≡ y % 2 = sym (bit_zero x) ∙ same 0 (omega arith) ∙ bit_zero y in
    let high : x / 2 ≡ y / 2 = same_bits k (x / 2) (y / 2) (omega arith) (omega arith) (λ n below. sym (bit_suc x n) ∙ same (suc n) (omega arith) ∙ bit_suc y n) in
    omega arith

-- of bits: a union is one where either is
pub or_of_bits : {u v : ℕ} → (u ≡ 0) ⊎ (u ≡ 1) → (v ≡ 0) ⊎ (v ≡ 1) → (bit_or u v ≡ 1) ↔ ((u ≡ 1) ⊎ (v ≡ 1))
or_of_bits (inl p) (inl q) = let z = ap₂ bit_or p q in (λ e. inl (omega arith), λ s. ⊎_elim (λ e. omega arith) (λ e. omega arith) s)
or_of_bits (inl p) (inr q) = (λ _. inr q, λ _. ap₂ bit_or p q)
or_of_bits (inr p) (inl q) = (λ _. inl p, λ _. ap₂ bit_or p q)
or_of_bits (inr p) (inr q) = (λ _. inl p, λ _. ap₂ bit_or p q)

-- an intersection is one where both are
pub and_of_bits : {u v : ℕ} → (u ≡ 0) ⊎ (u ≡ 1) → (v ≡ 0) ⊎ (v ≡ 1) → (bit_and u v ≡ 1) ↔ ((u ≡ 1) × (v ≡ 1))
and_of_bits (inl p) (inl q) = let z = ap₂ bit_and p q in (λ e. omega arith, λ s. omega arith)
and_of_bits (inl p) (inr q) = let z = ap₂ bit_and p q in (λ e. omega arith, λ s. omega arith)
and_of_bits (inr p) (inl q) = let z = ap₂ bit_and p q in (λ e. omega arith, λ s. omega arith)
and_of_bits (inr p) (inr q) = (λ _. (p, q), λ _. ap₂ bit_and p q)

-- a union has what either has
pub in_or : (x y n : ℕ) → Member (bit_or x y) n ↔ (Member x n ⊎ Member y n)
in_or x y n =
    let by = or_of_bits (bit_cases x n) (bit_cases y n) in (
      λ m. ⊎_elim (λ e. inl (record { within = m.within; raised = e })) (λ e. inr (record { within = m.within; raised = e })) (by.0 (sym (bit_of_or x y n) ∙ m.raised)),
      ⊎_elim
          (λ m. record { within = m.within; raised = bit_of_or x y n ∙ by.1 (inl m.raised) })
          (λ m. record { within = m.within; raised = bit_of_or x y n ∙ by.1 (inr m.raised) }),
    )

-- an intersection has what both have
pub in_and : (x y n : ℕ) → Member (bit_and x y) n ↔ (Member x n × Member y n)
in_and x y n =
    let by = and_of_bits (bit_cases x n) (bit_cases y n) in
    (λ m. let e = by.0 (sym (bit_of_and x y n) ∙ m.raised) in (record { within = m.within; raised = e.0 }, record { within = m.within; raised = e.1 }), λ m. record { within = m.0.within; raised = bit_of_and x y n ∙ by.1 (m.0.raised, m.1.raised) })

-- the bits turned over have what the mask lacks
pub in_not : (y n : ℕ) → y < 2 ^ 32 → Member (4294967295 - y) n ↔ ((n < 32) × (Member y n → ⊥))
in_not y n l =
    (λ m. let e = bit_lacks 32 n y m.within l in (m.within, λ o. omega (arith, e, m.raised, o.raised)), λ h. record { within = h.0; raised = bit_lacks 32 n y h.0 l ∙ ⊎_elim (λ z. omega arith) (λ o. absurd (h.1 (record { within = h.0; raised = o }))) (bit_cases y n) })

-- one bit has one event
pub in_power : (a n : ℕ) → a < 32 → Member ((1 * 2 ^ a) % 2 ^ 32) n ↔ (n ≡ a)
in_power a n l =
    let e = one_shl a 32 l in
    (λ m. ⊎_elim (λ same. same) (λ other. let z = bit_other a n other in omega (arith, z, m.raised, ap (λ p. bit p n) e)) (cases_eq n a), λ same. record { within = omega arith; raised = ap (λ p. bit p n) e ∙ ap (bit (2 ^ a)) same ∙ bit_power a })

-- no event is in nothing
pub in_nothing : (n : ℕ) → Member 0 n → ⊥
in_nothing n m = omega (arith, bit_nothing n, m.raised)

-- a mask with the events of another is no other mask
pub same_members : {x y : ℕ} → x < 2 ^ 32 → y < 2 ^ 32 → ((n : ℕ) → Member x n ↔ Member y n) → x ≡ y
same_members {x} {y} h l same =
    same_bits 32 x y h l
    (λ n below.
    ⊎_elim
    (λ p. ⊎_elim (λ q. p ∙ sym q) (λ q. let m = (same n).1 (record { within = below; raised = q }) in m.raised ∙ sym q) (bit_cases y n))
    (λ p. p ∙ sym ((same n).0 (record { within = below; raised = p })).raised)
    (bit_cases x n))

-- a mask with no event is nothing
pub no_members : {x : ℕ} → x < 2 ^ 32 → ((n : ℕ) → Member x n → ⊥) → x ≡ 0
no_members {x} h none = same_members h (omega arith) (λ n. (λ m. absurd (none n m), λ m. absurd (in_nothing n m)))

-- a mask within another is no larger a number
pub within_le : {x y : ℕ} → x < 2 ^ 32 → y < 2 ^ 32 → ((n : ℕ) → Member x n → Member y n) → x ≤ y
within_le {x} {y} h l within =
    let e : bit_or x y ≡ y = same_members (or_lt 32 x y h l) l (λ n. (λ m. ⊎_elim (within n) (λ k. k) ((in_or x y n).0 m), λ m. (in_or x y n).1 (inr m))) in
    omega (arith, e, or_add_and x y, and_le_r x y)
