-- Laying a line into rows, number by number. Assumes nothing.
use Rattle.std.proofs.Common.{◌≡◌, ℕ, suc, ◌+◌, ◌/◌, ◌%◌, ◌<◌, Bool, List, ◌∷◌, ◌++◌, length, get_or, set, sym, refl, ap, ◌∙◌, subst, ap₂, mod-lt, add-one, arith, length-set}
use native.Mathlib.Nat.{mod-le}
use lib.Bits.{bit_or}
use Rattle.std.proofs.lemmas.Nat.{div_below}
use Rattle.run.specs.Runs.{Run}
use Rattle.coherence.specs.Lines.{First, Free, Last}
use Rattle.coherence.specs.Perms.{factorial, nth}
use Rattle.coherence.specs.Lines.{chosen, those, line}
use Rattle.coherence.specs.Digits.{row_by}
use Rattle.coherence.specs.Masks.{has, less, mask_of, left_of, laid}
use Rattle.coherence.specs.Laying.{capped, writes_mask, mask_row, rows_at}
use Rattle.coherence.proofs.Perms.{factorial_pos, removed_length, nth_first}
use Rattle.coherence.proofs.Masks.{those_mask, those_removed, laid_append}
use Rattle.coherence.proofs.Caps.{capped_div, capped_mod}

-- what is laid and what is left to lay make the whole
pub record Underway (whole : List ℕ) (end : ℕ) (rows : List ℕ) (rest group digit left : ℕ) : Type 0 where
  pub long : length rows ≡ 32
  pub size : length (those (has group) 32) ≡ left
  pub below : digit < factorial left
  pub small : digit < 362880
  pub rows_so : laid rows rest (nth left (those (has group) 32) digit) ≡ whole
  pub rest_so : left_of rest (nth left (those (has group) 32) digit) ≡ end

pub underway_start : (rows : List ℕ) (rest group digit : ℕ) → length rows ≡ 32 → digit < factorial (length (those (has group) 32)) → digit < 362880 → Underway (laid rows rest (mask_row group digit)) (left_of rest (mask_row group digit)) rows rest group digit (length (those (has group) 32))
underway_start rows rest group digit long below small = record { long = long; size = refl; below = below; small = small; rows_so = refl; rest_so = refl }

-- the first of what is left to lay
next_row : (group digit f : ℕ) → length (those (has group) 32) ≡ suc f → digit < factorial (suc f) → nth (suc f) (those (has group) 32) digit ≡ get_or (those (has group) 32) (digit / factorial f) 0 ∷ nth f (those (has (less group (get_or (those (has group) 32) (digit / factorial f) 0))) 32) (digit % factorial f)
unfolding nth factorial
next_row group digit f size below =
    let i : ℕ = digit / factorial f in
    let inside : i < length (those (has group) 32) = rw size (div_below digit (factorial f) (suc f) (factorial_pos f) below) in
    ap (λ xs. get_or (those (has group) 32) i 0 ∷ nth f xs (digit % factorial f)) (sym (those_removed group i inside))

one_less : (group digit f : ℕ) → length (those (has group) 32) ≡ suc f → digit < factorial (suc f) → length (those (has (less group (get_or (those (has group) 32) (digit / factorial f) 0))) 32) ≡ f
unfolding factorial
one_less group digit f size below =
    let i : ℕ = digit / factorial f in
    let inside : i < length (those (has group) 32) = rw size (div_below digit (factorial f) (suc f) (factorial_pos f) below) in
    let shorter = removed_length (those (has group) 32) i inside in
    let long = ap length (those_removed group i inside) in
    omega (arith, shorter, long, size)

-- one number more is laid
underway_step : (whole : List ℕ) (end : ℕ) (rows : List ℕ) (rest group digit f x : ℕ) → x ≡ get_or (those (has group) 32) (digit / factorial f) 0 → Underway whole end rows rest group digit (suc f) → Underway whole end (set rows x (less rest x)) (less rest x) (less group x) (digit % factorial f) f
unfolding laid left_of
underway_step whole end rows rest group digit f x e u =
    let next = subst (λ y. nth (suc f) (those (has group) 32) digit ≡ y ∷ nth f (those (has (less group y)) 32) (digit % factorial f)) (sym e) (next_row group digit f u.size u.below) in
    record {
      long = length-set rows x (less rest x) ∙ u.long;
      size = subst (λ y. length (those (has (less group y)) 32) ≡ f) (sym e) (one_less group digit f u.size u.below);
      below = mod-lt digit (factorial_pos f);
      small = let le = mod-le digit (factorial f) in omega (arith, le, u.small);
      rows_so = ap (laid rows rest) (sym next) ∙ u.rows_so;
      rest_so = ap (left_of rest) (sym next) ∙ u.rest_so;
    }

pub underway_more : (whole : List ℕ) (end : ℕ) (rows : List ℕ) (rest group digit left f radix x digit' group' rest' : ℕ) → Underway whole end rows rest group digit left → left ≡ suc f → radix ≡ capped (factorial f) → x ≡ get_or (those (has group) 32) (digit / radix) 0 → digit' ≡ digit % radix → group' ≡ less group x → rest' ≡ less rest x → Underway whole end (set rows x rest') rest' group' digit' f
underway_more whole end rows rest group digit left f radix x digit' group' rest' u e r sel d g t =
    let u' = subst (Underway whole end rows rest group digit) e u in
    let place : digit / radix ≡ digit / factorial f = ap (λ n. digit / n) r ∙ capped_div digit (factorial f) u.small in
    let here : x ≡ get_or (those (has group) 32) (digit / factorial f) 0 = sel ∙ ap (λ n. get_or (those (has group) 32) n 0) place in
    let step = underway_step whole end rows rest group digit f x here u' in
    let digit_so : digit' ≡ digit % factorial f = d ∙ ap (λ n. digit % n) r ∙ capped_mod digit (factorial f) u.small in
    rw (digit_so, g, t) step

-- nothing is left to lay
pub underway_done : (whole : List ℕ) (end : ℕ) (rows : List ℕ) (rest group digit left : ℕ) → Underway whole end rows rest group digit left → left ≡ 0 → (rows ≡ whole) × (rest ≡ end)
unfolding nth laid left_of
underway_done whole end rows rest group digit left u e =
    let u' = subst (Underway whole end rows rest group digit) e u in
    (u'.rows_so, u'.rest_so)

-- the numbers of what was gathered
pub gathered : (mask : ℕ) (p : ℕ → Bool) → mask ≡ mask_of p 32 → those (has mask) 32 ≡ those p 32
gathered mask p e = ap (λ m. those (has m) 32) e ∙ those_mask p

-- lined up by their digit
pub gathered_row : (mask digit : ℕ) (p : ℕ → Bool) → mask ≡ mask_of p 32 → mask_row mask digit ≡ nth (length (those p 32)) (those p 32) digit
gathered_row mask digit p e = ap (λ xs. nth (length xs) xs digit) (gathered mask p e)

pub gathered_first : (mask : ℕ) (p : ℕ → Bool) → mask ≡ mask_of p 32 → mask_row mask 0 ≡ those p 32
gathered_first mask p e = gathered_row mask 0 p e ∙ nth_first (those p 32)

-- three groups laid one after the other are the line
pub line_laid : (run : Run) (l digit : ℕ) (rows rows1 rows2 rows3 : List ℕ) (first free last rest1 rest2 : ℕ) → first ≡ mask_of (chosen First run l) 32 → free ≡ mask_of (chosen Free run l) 32 → last ≡ mask_of (chosen Last run l) 32 → rows1 ≡ laid rows (bit_or (bit_or first free) last) (mask_row first 0) → rest1 ≡ left_of (bit_or (bit_or first free) last) (mask_row first 0) → rows2 ≡ laid rows1 rest1 (mask_row free digit) → rest2 ≡ left_of rest1 (mask_row free digit) → rows3 ≡ laid rows2 rest2 (mask_row last 0) → rows3 ≡ laid rows (writes_mask run l) (line run l (row_by run l digit))
line_laid run l digit rows rows1 rows2 rows3 first free last rest1 rest2 f r t one left1 two left2 three =
    let a : List ℕ = mask_row first 0 in
    let b : List ℕ = mask_row free digit in
    let c : List ℕ = mask_row last 0 in
    let whole : ℕ = bit_or (bit_or first free) last in
    let tail : laid rows1 rest1 (b ++ c) ≡ rows3 = laid_append rows1 rest1 b c ∙ ap₂ (λ xs n. laid xs n c) (sym two) (sym left2) ∙ sym three in
    let all : laid rows whole (a ++ (b ++ c)) ≡ rows3 = laid_append rows whole a (b ++ c) ∙ ap₂ (λ xs n. laid xs n (b ++ c)) (sym one) (sym left1) ∙ tail in
    let mask : whole ≡ writes_mask run l = ap₂ bit_or (ap₂ bit_or f r) t in
    let row : a ++ (b ++ c) ≡ line run l (row_by run l digit) = ap₂ ◌++◌ (gathered_first first (chosen First run l) f) (ap₂ ◌++◌ (gathered_row free digit (chosen Free run l) r) (gathered_first last (chosen Last run l) t)) in
    sym all ∙ ap₂ (laid rows) mask row

-- the rows of one location more
pub rows_more : (run : Run) (digits rows after : List ℕ) (l : ℕ) → rows ≡ rows_at run digits l → after ≡ laid rows (writes_mask run l) (line run l (row_by run l (get_or digits l 0))) → after ≡ rows_at run digits (l + 1)
unfolding rows_at
rows_more run digits rows after l before step = step ∙ ap (λ xs. laid xs (writes_mask run l) (line run l (row_by run l (get_or digits l 0)))) before ∙ ap (rows_at run digits) (sym (add-one l))
