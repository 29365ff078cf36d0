-- The class of a byte by tests is its class in words. Assumes nothing.
use Rattle.std.proofs.Common.{◌≡◌, ℕ, ◌≤◌, Bool, true, false, cond, ◌&&◌, ◌||◌, eqb, leb, List, [], ◌∷◌, refl, ap, ◌∙◌, inl, inr, arith}
use Rattle.std.proofs.lemmas.Bool.{eqb-true, leb-true, le-leb, and_parts, and_from, or_cases, or_right, ne_eqb, or_from, lt-leb, and_left}
use Rattle.token.specs.Classes.{Among, blanks, marks, signs, Blank, Letter, Digit, Mark, Sign, Classified, among, within, class}

among_told : (xs : List ℕ) (b : ℕ) → among xs b ≡ true → Among xs b
among_told [] b h = absurd (let z : ◌≡◌ {A = ℕ} 0 1 = cc in omega arith)
among_told (x ∷ xs) b h = elim (or_cases (eqb b x) (among xs b) h) [ inl e ↦ inl (eqb-true b x e) | inr m ↦ inr (among_told xs b m) ]

within_told : (low high b : ℕ) → within low high b ≡ true → (low ≤ b) × (b ≤ high)
within_told low high b h = (leb-true low b (and_parts _ _ h).0, leb-true b high (and_parts (leb low b) _ h).1)

-- a rule that holds at each byte of a list holds of a byte among them
each : (c : ℕ) → List ℕ → Bool
each c [] = true
each c (x ∷ xs) = eqb (class x) c && each c xs

each_told : (c : ℕ) (xs : List ℕ) (b : ℕ) → each c xs ≡ true → Among xs b → class b ≡ c
unfolding each
each_told c [] b h m = absurd m
each_told c (x ∷ xs) b h (inl e) = ap class e ∙ eqb-true (class x) c (and_parts _ _ h).0
each_told c (x ∷ xs) b h (inr m) = each_told c xs b (and_parts (eqb (class x) c) _ h).1 m

-- the blanks lie below all letters and digits
none_among : (xs : List ℕ) (b : ℕ) → (Among xs b → ⊥) → among xs b ≡ false
none_among [] b h = refl
none_among (x ∷ xs) b h = or_from (eqb b x) (among xs b) (ne_eqb b x (λ e. h (inl e))) (none_among xs b (λ m. h (inr m)))

blank_low : (b : ℕ) → 33 ≤ b → Blank b → ⊥
blank_low b l (inl e) = omega arith
blank_low b l (inr (inl e)) = omega arith
blank_low b l (inr (inr (inl e))) = omega arith
blank_low b l (inr (inr (inr (inl e)))) = omega arith
blank_low b l (inr (inr (inr (inr e)))) = e

letter_class : (b : ℕ) → Letter b → class b ≡ 2
unfolding class
letter_class b (inl h) = rw (none_among blanks b (blank_low b (omega arith)), le-leb 65 b h.0, le-leb b 90 h.1) refl
letter_class b (inr h) =
    rw (none_among blanks b (blank_low b (omega arith)), or_right (within 65 90 b) (within 97 122 b) (and_from (leb 97 b) (leb b 122) (le-leb 97 b h.0) (le-leb b 122 h.1))) refl

digit_class : (b : ℕ) → Digit b → class b ≡ 3
unfolding class
digit_class b h =
    rw (
      none_among blanks b (blank_low b (omega arith)),
      or_from (within 65 90 b) (within 97 122 b) (and_left (leb 65 b) (leb b 90) (lt-leb 65 b (omega arith))) (and_left (leb 97 b) (leb b 122) (lt-leb 97 b (omega arith))),
      le-leb 48 b h.0,
      le-leb b 57 h.1,
    ) refl

-- what the class tells of its byte
abbrev Told : ℕ → ℕ → Type 0
Told b c = (c ≡ 1 → Blank b) × (c ≡ 2 → Letter b) × (c ≡ 3 → Digit b) × (c ≡ 4 → Mark b) × (c ≡ 5 → Sign b) × (c ≤ 5)

class_told : (b : ℕ) → Told b (class b)
unfolding class
class_told b =
    go (among blanks b) (within 65 90 b || within 97 122 b) (within 48 57 b) (among marks b) (among signs b) (among_told blanks b)
    (λ e. elim (or_cases (within 65 90 b) (within 97 122 b) e) [ inl h ↦ inl (within_told 65 90 b h) | inr h ↦ inr (within_told 97 122 b h) ]) (within_told 48 57 b) (among_told marks b) (among_told signs b)
  where
    go : (v w x y z : Bool) → (v ≡ true → Blank b) → (w ≡ true → Letter b) → (x ≡ true → Digit b) → (y ≡ true → Mark b) → (z ≡ true → Sign b) → Told b (cond v 1 (cond w 2 (cond x 3 (cond y 4 (cond z 5 0)))))
    go true w x y z f g h i j = (λ e. f refl, λ e. absurd (omega arith), λ e. absurd (omega arith), λ e. absurd (omega arith), λ e. absurd (omega arith), omega arith)
    go false true x y z f g h i j = (λ e. absurd (omega arith), λ e. g refl, λ e. absurd (omega arith), λ e. absurd (omega arith), λ e. absurd (omega arith), omega arith)
    go false false true y z f g h i j = (λ e. absurd (omega arith), λ e. absurd (omega arith), λ e. h refl, λ e. absurd (omega arith), λ e. absurd (omega arith), omega arith)
    go false false false true z f g h i j = (λ e. absurd (omega arith), λ e. absurd (omega arith), λ e. absurd (omega arith), λ e. i refl, λ e. absurd (omega arith), omega arith)
    go false false false false true f g h i j = (λ e. absurd (omega arith), λ e. absurd (omega arith), λ e. absurd (omega arith), λ e. absurd (omega arith), λ e. j refl, omega arith)
    go false false false false false f g h i j = (λ e. absurd (omega arith), λ e. absurd (omega arith), λ e. absurd (omega arith), λ e. absurd (omega arith), λ e. absurd (omega arith), omega arith)

pub classified : (b : ℕ) → Classified b (class b)
unfolding each class
classified b =
    record {
      blank = ((class_told b).0, each_told 1 blanks b refl);
      letter = ((class_told b).1, letter_class b);
      digit = ((class_told b).2, digit_class b);
      mark = ((class_told b).3, each_told 4 marks b refl);
      sign = ((class_told b).4, each_told 5 signs b refl);
      known = (class_told b).5;
    }
