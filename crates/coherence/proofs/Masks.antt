-- Masks: their bits, and rows with lines laid into them. Assumes nothing.
use Rattle.std.proofs.Common.{◌≡◌, ℕ, zero, suc, ◌+◌, ◌*◌, ◌/◌, ◌%◌, ◌^◌, ◌<◌, ◌≤◌, Bool, true, false, cond, not, ◌||◌, eqb, ltb, List, [], ◌∷◌, ◌++◌, length, get_or, set, Decides, sym, refl, ap, ◌∙◌, subst, inl, inr, ⊎_elim, not-suc-le-zero, arith, length-set, get_or-set_other, get_or-set_same, mod-lt, mod-eq_of_lt, length-append}
use lib.Bits.{bit_or}
use Rattle.std.proofs.Math.Bool.{or-false}
use Rattle.std.proofs.lemmas.Bool.{both_ways, false_from_ne_true, cases_eq, cases_lt, eq-eqb, ne_eqb, or_left}
use Rattle.std.proofs.lemmas.Bool.Decides.{nat_tests}
use Rattle.std.proofs.lemmas.Nat.Bits.{bit_at-zero, bit_at_or, bit_at_xor, bit_at-pow_same, bit_at-pow_other, same_from_bits_below}
use Rattle.std.proofs.lemmas.Nat.{or_lt, pow_below}
use Rattle.std.specs.Int.Count.{ones, ones_in}
use Rattle.std.specs.Int.RustNames.{count_ones}
use Rattle.std.proofs.lemmas.Nat.{mod-pow-add, ones_cat, pow_pos}
use Rattle.run.specs.declared.event.Event.{Event}
use Rattle.run.specs.Runs.{Run}
use Rattle.run.specs.Tests.{holds}
use Rattle.run.specs.Masks.{Gathered}
use Rattle.run.proofs.Gathering.{gathered_at}
use Rattle.finite.specs.Lists.{In, Apart}
use Rattle.coherence.specs.Perms.{removed}
use Rattle.coherence.specs.Lines.{those, member, precedes}
use Rattle.coherence.specs.Masks.{has, more, less, mask_of, left_of, laid}
use Rattle.coherence.proofs.Perms.{in_getD, removed_only, removed_all, removed_gone, removed_sorted, rising_apart}
use Rattle.coherence.proofs.Rows.{member_decided, precedes_decided, precedes_left, sorted_one, those_in, those_has, those_rising, those_same}

-- nothing is in the empty set
pub has_none : (k : ℕ) → has 0 k ≡ false
unfolding has
has_none k = ap (λ n. eqb n 1) (bit_at-zero k)

-- what is in a set of either
pub has_or : (a b k : ℕ) → has (bit_or a b) k ≡ (has a k || has b k)
unfolding has
has_or a b k = let bit = bit_at_or a b k in grind (arith, nat_tests)

-- a number more in the set
pub has_more : (mask x : ℕ) → has (more mask x) x ≡ true
unfolding has
has_more mask x = let bit = bit_at_or mask (2 ^ x) x in let one = bit_at-pow_same x in grind (arith, nat_tests)

pub has_more_other : (mask x k : ℕ) → (k ≡ x → ⊥) → has (more mask x) k ≡ has mask k
unfolding has
has_more_other mask x k ne = ap (λ n. eqb n 1) (omega (arith, bit_at_or mask (2 ^ x) k, bit_at-pow_other x k ne))

-- a number less
pub has_less : (mask x : ℕ) → has (less mask x) x ≡ not (has mask x)
unfolding has
has_less mask x = let bit = bit_at_xor mask (2 ^ x) x in let one = bit_at-pow_same x in grind (arith, nat_tests)

pub has_less_other : (mask x k : ℕ) → (k ≡ x → ⊥) → has (less mask x) k ≡ has mask k
unfolding has
has_less_other mask x k ne = ap (λ n. eqb n 1) (omega (arith, bit_at_xor mask (2 ^ x) k, bit_at-pow_other x k ne))

-- it has as many numbers as bits
bit_size : (u : ℕ) (x : ℕ) → u < 2 → length (cond (eqb u 1) (x ∷ []) []) ≡ count_ones u
unfolding ones ones_in
bit_size zero x lt = refl
bit_size (suc zero) x lt = refl
bit_size (suc (suc u)) x lt = absurd (omega arith)

size_below : (mask n : ℕ) → length (those (has mask) n) ≡ count_ones (mask % 2 ^ n)
unfolding those has ones ones_in
size_below mask zero = let none : mask % 2 ^ 0 ≡ 0 = omega arith in sym (ap count_ones none)
size_below mask (suc n) =
    let bit : mask / 2 ^ n % 2 < 2 = omega arith in
    let split : mask % 2 ^ suc n ≡ mask / 2 ^ n % 2 * 2 ^ n + mask % 2 ^ n = ap (λ k. mask % 2 ^ k) (omega arith) ∙ mod-pow-add mask 1 n in
    let parts = ap count_ones split ∙ ones_cat n (mask / 2 ^ n % 2) (mask % 2 ^ n) (mod-lt mask (pow_pos n)) in
    let one = bit_size (mask / 2 ^ n % 2) n bit in
    let long = length-append (those (has mask) n) (cond (eqb (mask / 2 ^ n % 2) 1) (n ∷ []) []) in
    let before = size_below mask n in
    omega (arith, parts, one, long, before)

pub mask_size : (mask : ℕ) → mask < 2 ^ 32 → count_ones mask ≡ length (those (has mask) 32)
mask_size mask fits = sym (size_below mask 32 ∙ ap count_ones (mod-eq_of_lt fits))

-- it has what passes
mask_step : (p : ℕ → Bool) (n k : ℕ) (b : Bool) → (k ≡ n → ⊥) → has (cond b (more (mask_of p n) n) (mask_of p n)) k ≡ has (mask_of p n) k
mask_step p n k true ne = has_more_other (mask_of p n) n k ne
mask_step p n k false ne = refl

pub mask_out : (p : ℕ → Bool) (n k : ℕ) → n ≤ k → has (mask_of p n) k ≡ false
unfolding mask_of
mask_out p zero k le = has_none k
mask_out p (suc n) k le = mask_step p n k (p n) (λ e. omega arith) ∙ mask_out p n k (omega arith)

pub mask_in : (p : ℕ → Bool) (n k : ℕ) → k < n → has (mask_of p n) k ≡ p k
unfolding mask_of
mask_in p zero k lt = absurd (not-suc-le-zero lt)
mask_in p (suc n) k lt =
    ⊎_elim (λ e. subst (λ j. has (mask_of p (suc n)) j ≡ p j) (sym e) (elim (p n) as (λ b. has (cond b (more (mask_of p n) n) (mask_of p n)) n ≡ b) [ true ↦ has_more (mask_of p n) n | false ↦ mask_out p n n (omega arith) ])) (λ ne. mask_step p n k (p n) ne ∙ mask_in p n k (omega arith)) (cases_eq k n)

-- it fits
mask_fits : (p : ℕ → Bool) (n k : ℕ) → n ≤ k → mask_of p n < 2 ^ k
unfolding mask_of
mask_fits p zero k le = pow_pos k
mask_fits p (suc n) k le =
    let before = mask_fits p n k (omega arith) in
    elim (p n) as (λ b. cond b (more (mask_of p n) n) (mask_of p n) < 2 ^ k) [ true ↦ or_lt k (mask_of p n) (2 ^ n) before (pow_below n k (omega arith)) | false ↦ before ]

-- a mask gathered by a test is that of what passes
pub mask_gathered : (answers : Event → Bool → Type 0) (run : Run) (test : Event → Bool) {mask : ℕ} → ((e : Event) (b : Bool) → answers e b → b ≡ test e) → Gathered answers run mask → mask ≡ mask_of (λ n. holds (run n) test) 32
unfolding has
mask_gathered answers run test {mask} computes g =
    let p : ℕ → Bool = λ n. holds (run n) test in
    same_from_bits_below 32 mask (mask_of p 32) g.fits (mask_fits p 32 32 (omega arith))
    (λ n lt. let same = gathered_at answers run test computes g n lt ∙ sym (mask_in p 32 n lt) in grind (arith, nat_tests))

-- the numbers of a mask are those that pass
pub those_mask : (p : ℕ → Bool) → those (has (mask_of p 32)) 32 ≡ those p 32
those_mask p = those_same (has (mask_of p 32)) p 32 (λ k lt. mask_in p 32 k lt)

pub mask_decided : (p : ℕ → Bool) (k : ℕ) → Decides (has (mask_of p 32) k) (In k (those p 32))
mask_decided p k = (
  λ h. ⊎_elim (λ lt. those_has p 32 k lt (sym (mask_in p 32 k lt) ∙ h)) (λ ge. absurd (both_ways (has (mask_of p 32) k) (mask_out p 32 k ge) h)) (cases_lt k 32),
  λ h. let t = those_in p 32 k h in mask_in p 32 k t.0 ∙ t.1,
)

-- one number taken out of a mask
taken_in : (mask x z : ℕ) → has mask x ≡ true → has (less mask x) z ≡ true → (z ≡ x → ⊥) × (has mask z ≡ true)
taken_in mask x z there h =
    let ne : z ≡ x → ⊥ = λ e. both_ways (has (less mask x) x) (has_less mask x ∙ ap not there) (subst (λ k. has (less mask x) k ≡ true) e h) in
    (ne, sym (has_less_other mask x z ne) ∙ h)

pub those_removed : (mask i : ℕ) → i < length (those (has mask) 32) → those (has (less mask (get_or (those (has mask) 32) i 0))) 32 ≡ removed i (those (has mask) 32)
those_removed mask i lt =
    let all : List ℕ = those (has mask) 32 in
    let x : ℕ = get_or all i 0 in
    let rising = those_rising (has mask) 32 in
    let there = those_in (has mask) 32 x (in_getD all i lt) in
    sorted_one ltb (those (has (less mask x)) 32) (removed i all) (λ a b h k. grind (arith, nat_tests)) (those_rising (has (less mask x)) 32) (removed_sorted ltb all i rising)
    (λ z h. let t = those_in (has (less mask x)) 32 z h in let s = taken_in mask x z there.1 t.1 in
    ⊎_elim (λ e. absurd (s.0 e)) (λ k. k) (removed_all all i z (those_has (has mask) 32 z t.0 s.1)))
    (λ z h. let t = those_in (has mask) 32 z (removed_only all i z h) in
    let ne : z ≡ x → ⊥ = λ e. removed_gone all i lt (rising_apart all rising) (subst (λ k. In k (removed i all)) e h) in
    those_has (has (less mask x)) 32 z t.0 (has_less_other mask x z ne ∙ t.1))

-- laying two lines one after the other is laying their join
pub laid_append : (rows : List ℕ) (rest : ℕ) (xs ys : List ℕ) → laid rows rest (xs ++ ys) ≡ laid (laid rows rest xs) (left_of rest xs) ys
unfolding laid left_of
laid_append rows rest [] ys = refl
laid_append rows rest (x ∷ xs) ys = laid_append (set rows x (less rest x)) (less rest x) xs ys

pub laid_length : (rows : List ℕ) (rest : ℕ) (xs : List ℕ) → length (laid rows rest xs) ≡ length rows
unfolding laid
laid_length rows rest [] = refl
laid_length rows rest (x ∷ xs) = laid_length (set rows x (less rest x)) (less rest x) xs ∙ length-set rows x (less rest x)

-- what is not in a list precedes nothing in it
pub precedes_not : (xs : List ℕ) (a b : ℕ) → member a xs ≡ false → precedes xs a b ≡ false
precedes_not xs a b none =
    false_from_ne_true _ (λ h. both_ways (member a xs) none ((member_decided a xs).1 (precedes_left xs a b ((precedes_decided xs a b).0 h))))

-- the first number of a line is taken out of the rest
rest_after : (rest x : ℕ) (xs : List ℕ) → (In x xs → ⊥) → ((b : ℕ) → has rest b ≡ member b (x ∷ xs)) → (b : ℕ) → has (less rest x) b ≡ member b xs
unfolding member
rest_after rest x xs fresh same b =
    ⊎_elim
    (λ e.
    let gone : member x xs ≡ false = false_from_ne_true _ (λ h. fresh ((member_decided x xs).0 h)) in
    let was : has rest x ≡ true = same x ∙ or_left (eqb x x) (member x xs) (eq-eqb x x refl) in
    subst (λ k. has (less rest x) k ≡ member k xs) (sym e) (has_less rest x ∙ ap not was ∙ sym gone))
    (λ ne. has_less_other rest x b ne ∙ same b ∙ ap (λ t. t || member b xs) (ne_eqb b x ne))
    (cases_eq b x)

-- the rows of a line's numbers have what stands after them, the others stay
laid_step : (x a b : ℕ) (xs rows : List ℕ) (rest : ℕ) (here : Bool) → member a xs ≡ here → (In x xs → ⊥) → x < length rows → ((k : ℕ) → has (less rest x) k ≡ member k xs) → cond here (precedes xs a b) (has (get_or (set rows x (less rest x)) a 0) b) ≡ cond (member a (x ∷ xs)) (precedes (x ∷ xs) a b) (has (get_or rows a 0) b)
unfolding member precedes
laid_step x a b xs rows rest true e fresh lt same =
    let ne : a ≡ x → ⊥ = λ q. fresh (subst (λ k. In k xs) q ((member_decided a xs).0 e)) in
    rw (ne_eqb a x ne, e) refl
laid_step x a b xs rows rest false e fresh lt same =
    ⊎_elim
    (λ q.
    let here : has (get_or (set rows x (less rest x)) a 0) b ≡ member b xs = subst (λ k. has (get_or (set rows x (less rest x)) k 0) b ≡ member b xs) (sym q) (ap (λ r. has r b) (get_or-set_same rows x (less rest x) 0 lt) ∙ same b) in
    here ∙ rw (eq-eqb a x q, precedes_not xs a b e) (sym (or-false (member b xs))))
    (λ ne. rw (ne_eqb a x ne, e) (ap (λ r. has r b) (get_or-set_other rows x a (less rest x) 0 ne)))
    (cases_eq a x)

pub laid_row : (line rows : List ℕ) (rest a b : ℕ) → Apart line → ((x : ℕ) → In x line → x < length rows) → ((k : ℕ) → has rest k ≡ member k line) → has (get_or (laid rows rest line) a 0) b ≡ cond (member a line) (precedes line a b) (has (get_or rows a 0) b)
unfolding laid member precedes
laid_row [] rows rest a b apart low same = refl
laid_row (x ∷ xs) rows rest a b apart low same =
    let after = rest_after rest x xs apart.0 same in
    laid_row xs (set rows x (less rest x)) (less rest x) a b apart.1 (λ y h. rw (length-set rows x (less rest x)) (low y (inr h))) after
    ∙ laid_step x a b xs rows rest (member a xs) refl apart.0 (low x (inl refl)) after
