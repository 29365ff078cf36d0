-- What the code tells is right: the rows show the order of the number, and the count is the product. Assumes nothing.
use Rattle.std.proofs.Common.{◌≡◌, ℕ, zero, suc, ◌*◌, ◌/◌, ◌%◌, ◌<◌, ◌≤◌, min, Bool, true, false, cond, ◌||◌, leb, List, [], ◌∷◌, ◌++◌, length, get_or, drop, set, replicate, sym, refl, ap, ◌∙◌, subst, inl, inr, ⊎_elim, append_assoc, mul-pos, div-le_self, add-one, arith, length-set}
use Rattle.std.proofs.Math.Bool.{or-false}
use Rattle.std.proofs.lemmas.Bool.{cases_lt, false_from_ne_true, leb-true, leb-false}
use Rattle.std.proofs.lemmas.List.{get_or-replicate, get_or_past, length-replicate, drop-set}
use Rattle.std.proofs.lemmas.Bool.Decides.{Decides-or, Decides-like, Decides-at, same_from_decides}
use Rattle.std.specs.List.{fold, range_with_len}
use Rattle.std.specs.Bool.{then_some}
use Rattle.std.proofs.lemmas.List.Sums.{fold-append}
use Rattle.run.specs.Runs.{Run}
use Rattle.run.specs.Tests.{any_below}
use Rattle.coherence.specs.Lines.{First, Free, Last}
use Rattle.coherence.specs.Perms.{LinesUp}
use Rattle.coherence.specs.Coherence.{FreeOf}
use Rattle.coherence.specs.Numbers.{product}
use Rattle.coherence.specs.Lines.{chosen, group, line, member, precedes, order_of}
use Rattle.coherence.specs.Digits.{digits_of, excess, ways, row_by, order_at}
use Rattle.coherence.specs.Masks.{has, mask_of, Shown}
use Rattle.coherence.specs.Laying.{capped, writes_mask, rows_at}
use Rattle.coherence.specs.Answers.{Has, Told, Gives}
use Rattle.coherence.proofs.Perms.{factorial_pos, lines_same}
use Rattle.coherence.proofs.Mixed.{digits_below, digits_le, excess_none, excess_below}
use Rattle.coherence.proofs.Caps.{capped_div, capped_mod, capped_product}
use Rattle.coherence.proofs.Rows.{range_more, in_append, in_left, in_right, precedes_left, member_decided}
use Rattle.coherence.proofs.Masks.{has_none, has_or, mask_decided, precedes_not, laid_length, laid_row}
use Rattle.coherence.proofs.Groups.{free_lines, line_writes, line_apart}
use Rattle.coherence.proofs.Orders.{below_decided, order_decided, one_location}
use Rattle.coherence.proofs.Pairing.{orders_have, row_right, order_at_coherent, order_at_number, counted_law}

-- the mask of a location's writes has what its line has
pub writes_line : (run : Run) (l : ℕ) (row : List ℕ) (k : ℕ) → LinesUp (FreeOf run l) row → has (writes_mask run l) k ≡ member k (line run l row)
writes_line run l row k r =
    let f : ℕ = mask_of (chosen First run l) 32 in
    let e : ℕ = mask_of (chosen Free run l) 32 in
    let t : ℕ = mask_of (chosen Last run l) 32 in
    let bits : has (writes_mask run l) k ≡ ((has f k || has e k) || has t k) = has_or _ t k ∙ ap (λ b. b || has t k) (has_or f e k) in
    let parts = Decides-or (has f k || has e k) (has t k) (Decides-or (has f k) (has e k) (mask_decided (chosen First run l) k) (mask_decided (chosen Free run l) k)) (mask_decided (chosen Last run l) k) in
    let same = lines_same row (group Free run l) r (free_lines run l) in
    let whole = Decides-like ((has f k || has e k) || has t k)
    (⊎_elim (⊎_elim (λ h. in_left k (group First run l) _ h) (λ h. in_right k (group First run l) _ (in_left k row _ (same.back k h)))) (λ h. in_right k (group First run l) _ (in_right k row _ h)))
    (λ h. ⊎_elim (λ i. inl (inl i)) (λ i. ⊎_elim (λ j. inl (inr (same.there k j))) inr (in_append k row (group Last run l) i)) (in_append k (group First run l) (row ++ group Last run l) h))
    parts in
    same_from_decides (has (writes_mask run l) k) (member k (line run l row)) (Decides-at (has (writes_mask run l) k) ((has f k || has e k) || has t k) bits whole) (member_decided k (line run l row))

pub rows_length : (run : Run) (digits : List ℕ) (m : ℕ) → length (rows_at run digits m) ≡ 32
unfolding rows_at
rows_length run digits zero = length-replicate {A = ℕ} 32 0
rows_length run digits (suc m) = laid_length (rows_at run digits m) (writes_mask run m) (line run m (row_by run m (get_or digits m 0))) ∙ rows_length run digits m

-- rows of nothing
zeros : (a b : ℕ) → has (get_or (replicate 32 0) a 0) b ≡ false
zeros a b =
    let none : get_or (replicate 32 0) a 0 ≡ 0 = ⊎_elim (λ lt. get_or-replicate 32 a 0 0 lt) (λ ge. get_or_past (replicate 32 0) a 0 (rw (length-replicate {A = ℕ} 32 0) ge)) (cases_lt a 32) in
    ap (λ n. has n b) none ∙ has_none b

module _ (run : Run) (digits : List ℕ) (right : (l : ℕ) → l < 16 → LinesUp (FreeOf run l) (row_by run l (get_or digits l 0))) where
  -- the line of a location by its digit
  abbrev laid_line : ℕ → List ℕ
  laid_line l = line run l (row_by run l (get_or digits l 0))

  -- a number has a line of one location only
  no_other : (m a b : ℕ) → m < 16 → member a (laid_line m) ≡ true → any_below (λ l. precedes (laid_line l) a b) m ≡ false
  no_other m a b lt here =
      false_from_ne_true _
      (λ h.
      let t = (below_decided laid_line a b m).0 h in
      let there = line_writes run t.0 _ a (right t.0 (omega (arith, t.1, lt))) (precedes_left (laid_line t.0) a b t.2) in
      let write = line_writes run m _ a (right m lt) ((member_decided a (laid_line m)).0 here) in
      let same = one_location run t.0 m a there write in
      omega (arith, t.1, same))

  row_step : (m a b : ℕ) (here : Bool) (before : Bool) → m < 16 → member a (laid_line m) ≡ here → before ≡ any_below (λ l. precedes (laid_line l) a b) m → cond here (precedes (laid_line m) a b) before ≡ (precedes (laid_line m) a b || any_below (λ l. precedes (laid_line l) a b) m)
  row_step m a b true before lt e was = sym (ap (λ t. precedes (laid_line m) a b || t) (no_other m a b lt e) ∙ or-false (precedes (laid_line m) a b))
  row_step m a b false before lt e was = was ∙ sym (ap (λ t. t || any_below (λ l. precedes (laid_line l) a b) m) (precedes_not (laid_line m) a b e))

  -- the rows have what the lines have
  pub rows_right : (m a b : ℕ) → m ≤ 16 → has (get_or (rows_at run digits m) a 0) b ≡ any_below (λ l. precedes (laid_line l) a b) m
  unfolding rows_at any_below
  rows_right zero a b le = zeros a b
  rows_right (suc m) a b le =
      let lt : m < 16 = omega arith in
      let before = rows_right m a b (omega arith) in
      laid_row (laid_line m) (rows_at run digits m) (writes_mask run m) a b (line_apart run m _ (right m lt))
      (λ x h. rw (rows_length run digits m) (line_writes run m _ x (right m lt) h).stands.0)
      (λ k. writes_line run m (row_by run m (get_or digits m 0)) k (right m lt))
      ∙ row_step m a b (member a (laid_line m)) (has (get_or (rows_at run digits m) a 0) b) lt refl before

  pub rows_shown : Shown (rows_at run digits 16) (order_of laid_line)
  rows_shown = record {
    long = rows_length run digits 16;
    bits = λ a b.
        let same = rows_right 16 a b (omega arith) in (
          λ h.
              let t = (order_decided laid_line a b).0 h in
              let low = (line_writes run t.0 _ a (right t.0 t.1) (precedes_left (laid_line t.0) a b t.2)).stands.0 in
              (low, same ∙ h),
          λ h. sym same ∙ h.1,
        );
  }

-- a number below the product is told with its order
pub gives_order : (run : Run) (n : ℕ) (before after digits : List ℕ) → digits ≡ digits_of (ways run) n 16 → excess (ways run) n 16 ≡ 0 → after ≡ rows_at run digits 16 → Gives run n before after true
gives_order run n before after digits e none rows =
    let below = excess_below (ways run) n 16 (λ l. factorial_pos (length (group Free run l))) none in
    let shown : Shown after (order_at run n) = subst (λ xs. Shown xs (order_at run n)) (sym (rows ∙ ap (λ ds. rows_at run ds 16) e)) (rows_shown run (digits_of (ways run) n 16) (λ l lt. (row_right run n l lt).0)) in (
      (product (ways run) 16, orders_have run, below),
      record { co = order_at run n; shown = shown; coherent = λ sound. order_at_coherent run sound n; number = λ sound. order_at_number run sound n below },
    )

pub gives_none : (run : Run) (n : ℕ) (before after : List ℕ) → 0 < excess (ways run) n 16 → after ≡ before → Gives run n before after false
gives_none run n before after over same =
    let above : product (ways run) 16 ≤ n = ⊎_elim (λ lt. absurd (let none = excess_none (ways run) n 16 lt in omega (arith, none, over))) (λ ge. ge) (cases_lt n (product (ways run) 16)) in
    ((product (ways run) 16, orders_have run, above), same)

-- the digits as a loop makes them, from the last
pub record Splitting (radix : ℕ → ℕ) (number : ℕ) (digits : List ℕ) (rest left : ℕ) : Type 0 where
  pub long : length digits ≡ 16
  pub small : rest < 362880
  pub digits_so : digits_of radix rest left ++ drop left digits ≡ digits_of radix number 16
  pub rest_so : excess radix rest left ≡ excess radix number 16

splitting_step : (radix : ℕ → ℕ) (number : ℕ) (digits : List ℕ) (rest j : ℕ) → j < 16 → Splitting radix number digits rest (suc j) → Splitting radix number (set digits j (rest % radix j)) (rest / radix j) j
unfolding digits_of excess
splitting_step radix number digits rest j lt s =
    let inside : j < length digits = omega (arith, s.long) in
    let digit : ℕ = rest % radix j in
    let tail : drop j (set digits j digit) ≡ digit ∷ drop (suc j) digits = drop-set digits j digit inside ∙ ap (λ n. digit ∷ drop n digits) (add-one j) in
    record {
      long = length-set digits j digit ∙ s.long;
      small = let le = div-le_self rest (radix j) in omega (arith, le, s.small);
      digits_so = ap (λ xs. digits_of radix (rest / radix j) j ++ xs) tail ∙ sym (append_assoc (digits_of radix (rest / radix j) j) (digit ∷ []) (drop (suc j) digits)) ∙ s.digits_so;
      rest_so = s.rest_so;
    }

pub splitting_more : (radix : ℕ → ℕ) (number : ℕ) (digits : List ℕ) (rest left j r : ℕ) → Splitting radix number digits rest left → left ≡ suc j → left ≤ 16 → r ≡ capped (radix j) → Splitting radix number (set digits j (rest % r)) (rest / r) j
splitting_more radix number digits rest left j r s e le cap =
    let s' = subst (Splitting radix number digits rest) e s in
    let div : rest / r ≡ rest / radix j = ap (λ n. rest / n) cap ∙ capped_div rest (radix j) s.small in
    let digit : rest % r ≡ rest % radix j = ap (λ n. rest % n) cap ∙ capped_mod rest (radix j) s.small in
    rw (div, digit) (splitting_step radix number digits rest j (omega arith) s')

pub splitting_done : (radix : ℕ → ℕ) (number : ℕ) (digits : List ℕ) (rest left : ℕ) → Splitting radix number digits rest left → left ≡ 0 → (digits ≡ digits_of radix number 16) × (rest ≡ excess radix number 16)
unfolding digits_of excess
splitting_done radix number digits rest left s e =
    let s' = subst (Splitting radix number digits rest) e s in
    (s'.digits_so, s'.rest_so)

-- the product as a loop makes it, not followed above 5,040
pub product_pos : (run : Run) (m : ℕ) → 0 < product (ways run) m
unfolding product
product_pos run zero = omega arith
product_pos run (suc m) = mul-pos (product_pos run m) (factorial_pos (length (group Free run m)))

-- one location more
abbrev pub times : Run → ℕ → ℕ → ℕ
times run total l = min (min (total * capped (ways run l)) 4294967295) 5041

pub product_folded : (run : Run) (n : ℕ) → fold (times run) 1 (range_with_len 0 n) ≡ min (product (ways run) n) 5041
unfolding product
product_folded run zero = refl
product_folded run (suc n) =
    let before = product_folded run n in
    let more = capped_product (product (ways run) n) (ways run n) (product_pos run n) (factorial_pos (length (group Free run n))) in
    ap (fold (times run) 1) (range_more n) ∙ fold-append (times run) 1 (range_with_len 0 n) (n ∷ []) ∙ ap (λ t. times run t n) before ∙ omega (arith, more)

-- the count has been told
pub has_orders : (run : Run) → Has run (product (ways run) 16)
has_orders run = record { product = orders_have run; count = λ sound. counted_law run (product (ways run) 16) sound (orders_have run) }

pub told : (run : Run) (total : ℕ) → total ≡ min (product (ways run) 16) 5041 → Told run (then_some (leb total 5040) total)
told run total e = at (leb total 5040) refl
  where
    at : (t : Bool) → leb total 5040 ≡ t → Told run (then_some t total)
    at true is =
        let within = leb-true total 5040 is in
        let whole : product (ways run) 16 ≡ total = omega arith in
        (subst (Has run) whole (has_orders run), within)
    at false is = let over = leb-false total 5040 is in (product (ways run) 16, has_orders run, omega (arith, over))

-- the digits of a number of 16 bits are below their radices, and below the cap
pub digits_fit : (run : Run) (n : ℕ) (digits : List ℕ) → digits ≡ digits_of (ways run) n 16 → (l : ℕ) → l < 16 → get_or digits l 0 < ways run l
digits_fit run n digits e l lt = subst (λ xs. get_or xs l 0 < ways run l) (sym e) (digits_below (ways run) n 16 (λ m. factorial_pos (length (group Free run m))) l lt)

pub digits_small : (run : Run) (n : ℕ) (digits : List ℕ) → n < 65536 → digits ≡ digits_of (ways run) n 16 → (l : ℕ) → l < 16 → get_or digits l 0 < 362880
digits_small run n digits small e l lt =
    let le = digits_le (ways run) n 16 l in
    subst (λ xs. get_or xs l 0 < 362880) (sym e) (omega arith)
