-- Each operation on masks shows its set. Assumes nothing.
use Rattle.std.specs.Prelude.{◌≡◌, ℕ, ◌+◌, ◌-◌, ◌*◌, ◌/◌, ◌%◌, ◌^◌, ◌<◌, ◌↔◌, Decides, ◌==◌, bit_and, bit_or}
use Rattle.std.proofs.Common.{subst, ⊎_elim, arith}
use Rattle.std.proofs.Math.Path.{subst⁻¹}
use Rattle.std.proofs.Math.Logic.Iff
use Rattle.std.proofs.lemmas.Nat.{or_lt, and_le_l, and_le_r, and_mask, mod_below}
use Rattle.std.proofs.lemmas.Bool.Decides.{Decides-eqb, Decides-like}
use Rattle.relation.specs.Sets.{Events, Either, Both, Without, Single, Gated, SameEvents, Vacant}
use Rattle.relation.specs.Masks.{Member, Marks}
use Rattle.relation.specs.Bits.{bit_cases, in_or, in_and, in_not, in_power, in_nothing, same_members, no_members}

-- a mask shows what has the same events
pub marks_as : {x : ℕ} (A B : Events) → Marks x A → ((n : ℕ) → A n ↔ B n) → Marks x B
marks_as A B m h = record { fits = m.fits; same = λ n. Iff.trans (m.same n) (h n) }

-- the mask of no bit shows no event
pub nothing_marks : Marks 0 (λ n. ⊥)
nothing_marks = record { fits = omega arith; same = λ n. (in_nothing n, λ e. absurd e) }

-- the bits of either mask
pub or_marks : {x y : ℕ} → x < 2 ^ 32 → y < 2 ^ 32 → Marks (bit_or x y) (Either (Member x) (Member y))
or_marks {x} {y} h l = record { fits = or_lt 32 x y h l; same = in_or x y }

-- the bits of both masks
pub and_marks : {x y : ℕ} → x < 2 ^ 32 → Marks (bit_and x y) (Both (Member x) (Member y))
and_marks {x} {y} h = record { fits = omega (arith, and_le_l x y); same = in_and x y }

-- the bits of one mask with those of another turned over
pub without_marks : {x y : ℕ} → x < 2 ^ 32 → y < 2 ^ 32 → Marks (bit_and x (4294967295 - y)) (Without (Member x) (Member y))
without_marks {x} {y} h l =
    record {
      fits = omega (arith, and_le_l x (4294967295 - y));
      same = λ n. (λ m. let b = (in_and x (4294967295 - y) n).0 m in (b.0, ((in_not y n l).0 b.1).1), λ m. (in_and x (4294967295 - y) n).1 (m.0, (in_not y n l).1 (m.0.within, m.1)));
    }

-- masks are the same where they have the same events
pub same_decides : (x y : ℕ) → x < 2 ^ 32 → y < 2 ^ 32 → Decides (x == y) (SameEvents (Member x) (Member y))
same_decides x y h l =
    Decides-like (x == y) (λ e n. (subst (λ z. Member z n) e, subst⁻¹ (λ z. Member z n) e)) (same_members h l) (Decides-eqb x y)

-- a mask that is nothing has no event, and another has one
pub nothing_decides : (x : ℕ) → x < 2 ^ 32 → Decides (x == 0) (Vacant (Member x))
nothing_decides x h =
    Decides-like (x == 0) (λ e n m. in_nothing n (subst (λ z. Member z n) e m)) (no_members h) (Decides-eqb x 0)

-- one bit
pub power_marks : (a : ℕ) → a < 32 → Marks ((1 * 2 ^ a) % 2 ^ 32) (Single a)
power_marks a l = record { fits = mod_below (1 * 2 ^ a) (2 ^ 32) (omega arith); same = λ n. in_power a n l }

-- all ones where the bit is set, else nothing
abbrev pub gate : ℕ → ℕ → ℕ
gate x a = (0 + (4294967296 - bit_and (x / 2 ^ a) 1)) % 4294967296

-- a gate has an event where the bit is set, and then every event
pub in_gate : (x a n : ℕ) → a < 32 → Member (gate x a) n ↔ ((n < 32) × Member x a)
in_gate x a n l =
    let e = and_mask (x / 2 ^ a) 1 in
    ⊎_elim
    (λ zero. let shut : gate x a ≡ 0 = omega arith in
    (λ m. absurd (in_nothing n (subst (λ z. Member z n) shut m)), λ h. let s = h.1.raised in omega (arith, s, zero)))
    (λ one. let wide : gate x a ≡ 4294967295 = omega arith in
    (λ m. (m.within, record { within = l; raised = one }), λ h. subst⁻¹ (λ z. Member z n) wide ((in_not 0 n (omega arith)).1 (h.0, in_nothing n))))
    (bit_cases x a)

-- a mask behind a gate
pub gated_marks : (x a y : ℕ) → a < 32 → y < 2 ^ 32 → Marks (bit_and (gate x a) y) (Gated (Member x a) (Member y))
gated_marks x a y l h =
    record {
      fits = omega (arith, and_le_r (gate x a) y);
      same = λ n. (λ m. let b = (in_and (gate x a) y n).0 m in (((in_gate x a n l).0 b.0).1, b.1), λ m. (in_and (gate x a) y n).1 ((in_gate x a n l).1 (m.1.within, m.0), m.1));
    }
