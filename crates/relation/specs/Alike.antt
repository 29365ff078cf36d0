-- Relations compared row by row. Assumes nothing.
use Rattle.std.specs.Prelude.{◌≡◌, ℕ, ◌+◌, ◌^◌, ◌<◌, ◌≤◌, Bool, true, ◌&&◌, List, length, Decides, slice_index, refl}
use Rattle.std.proofs.Common.{sym, subst, inl, inr, ⊎_elim, arith}
use Rattle.std.proofs.lemmas.List.{ext_get_or}
use Rattle.std.proofs.lemmas.Bool.{cases_eq}
use Rattle.std.proofs.lemmas.Bool.Decides.{Decides-and, Decides-like}
use Rattle.relation.specs.Sets.{SameEvents}
use Rattle.relation.specs.Relations.{Union, Difference, SamePairs, Empty}
use Rattle.relation.specs.Masks.{Member, Related, Shows}
use Rattle.relation.specs.Bits.{bit_cases, same_members}

-- what is not alone in the first relation is in the second
pub shared : (xs ys : List ℕ) (a b : ℕ) → (Difference (Related xs) (Related ys) a b → ⊥) → Related xs a b → Related ys a b
shared xs ys a b alone p =
    ⊎_elim
    (λ z. absurd (alone (p, λ q. omega (arith, z, q.there.raised))))
    (λ o. record { within = p.within; there = record { within = p.there.within; raised = o } })
    (bit_cases (slice_index ys a) b)

-- relations are the same where no pair is in one of them alone
pub pairs_decide : (xs ys : List ℕ) {left right rows : List ℕ} (r : Bool) → Shows left (Difference (Related xs) (Related ys)) → Shows right (Difference (Related ys) (Related xs)) → Shows rows (Union (Related left) (Related right)) → Decides r (Empty (Related rows)) → Decides r (SamePairs (Related xs) (Related ys))
pairs_decide xs ys r s t u d =
    Decides-like r
    (λ e a b. (shared xs ys a b (λ p. e a b ((u.same a b).1 (inl ((s.same a b).1 p)))), shared ys xs a b (λ p. e a b ((u.same a b).1 (inr ((t.same a b).1 p))))))
    (λ h a b m. ⊎_elim (λ p. let q = (s.same a b).0 p in q.1 ((h a b).0 q.0)) (λ p. let q = (t.same a b).0 p in q.1 ((h a b).1 q.0)) ((u.same a b).0 m))
    d

-- the rows below n have the same events
abbrev pub AlikeBelow : ℕ → List ℕ → List ℕ → Type 0
AlikeBelow n xs ys = (a : ℕ) → a < n → SameEvents (Member (slice_index xs a)) (Member (slice_index ys a))

-- with no row compared
pub alike_none : (xs ys : List ℕ) → Decides true (AlikeBelow 0 xs ys)
alike_none xs ys = (λ _ a l. absurd (omega arith), λ _. refl)

-- after one more row
pub alike_more : (n : ℕ) (xs ys : List ℕ) (t r : Bool) → Decides r (AlikeBelow n xs ys) → Decides t (SameEvents (Member (slice_index xs n)) (Member (slice_index ys n))) → Decides (t && r) (AlikeBelow (n + 1) xs ys)
alike_more n xs ys t r d e =
    Decides-like (t && r)
    (λ h a l. ⊎_elim (λ same. subst (λ k. SameEvents (Member (slice_index xs k)) (Member (slice_index ys k))) (sym same) h.0) (λ ne. h.1 a (omega arith)) (cases_eq a n))
    (λ h. (h n (omega arith), λ a l. h a (omega arith)))
    (Decides-and t r e d)

-- with every row compared
pub alike_done : (n : ℕ) (xs ys : List ℕ) (r : Bool) → 32 ≤ n → n ≤ 32 → Decides r (AlikeBelow n xs ys) → Decides r (SamePairs (Related xs) (Related ys))
alike_done n xs ys r l u d =
    Decides-like r
    (λ h a b. (λ p. record { within = p.within; there = (h a (omega (arith, p.within)) b).0 p.there }, λ p. record { within = p.within; there = (h a (omega (arith, p.within)) b).1 p.there }))
    (λ h a k b. (λ m. ((h a b).0 (record { within = omega arith; there = m })).there, λ m. ((h a b).1 (record { within = omega arith; there = m })).there))
    d

-- rows that fit are the same where they relate the same
pub same_rows : (xs ys : List ℕ) → length xs ≡ 32 → length ys ≡ 32 → ((a : ℕ) → slice_index xs a < 2 ^ 32) → ((a : ℕ) → slice_index ys a < 2 ^ 32) → SamePairs (Related xs) (Related ys) → xs ≡ ys
same_rows xs ys p q f g h =
    ext_get_or 0 xs ys (cc)
    (λ a l. same_members (f a) (g a) (λ b. (λ m. ((h a b).0 (record { within = omega arith; there = m })).there, λ m. ((h a b).1 (record { within = omega arith; there = m })).there)))
