-- The numbers below the product of the factorials and the coherence orders of a sound run pair off. Assumes nothing.
use Rattle.std.proofs.Common.{◌≡◌, ℕ, ◌<◌, List, length, sym, refl, ap, ◌∙◌, subst, arith}
use Rattle.run.specs.Runs.{Run}
use Rattle.run.specs.Rules.{Sound}
use Rattle.finite.proofs.Counts.{count_unique, count_carried}
use Rattle.coherence.specs.Lines.{Free}
use Rattle.coherence.specs.Perms.{factorial, LinesUp, rank}
use Rattle.coherence.specs.Coherence.{FreeOf, Order, Coherence}
use Rattle.coherence.specs.Numbers.{mixed, product, Frees, radices, Orders, Row, Digit, Number, Earlier}
use Rattle.coherence.specs.Lines.{group, line}
use Rattle.coherence.specs.Digits.{ways, row_by, digit_at, order_at}
use Rattle.coherence.specs.Laws.{OneProduct, Pairing, Counted}
use Rattle.coherence.proofs.Perms.{factorial_pos, rank_below, same_length, lines_same, same_lines, rank_one, rank_earlier, rank_counts, nth_right, count_numbers}
use Rattle.coherence.proofs.Mixed.{Digits, Agree, product_same, mixed_same, mixed_below, mixed_one, mixed_lower, digits_below, digits_whole, excess_none}
use Rattle.coherence.proofs.Rows.{sort}
use Rattle.coherence.proofs.Groups.{group_rising, free_lines, free_counts}
use Rattle.coherence.proofs.Orders.{one_row, sorted_row, order_same, rows_coherent, rows_kept, made_by_rows}

-- how many ways there are, however the free writes are counted
ways_same : (run : Run) (free : ℕ → ℕ) → Frees run free → Agree (radices free) (ways run) 16
ways_same run free frees l lt = ap factorial (count_unique (frees l lt) (free_counts run l))

-- the product of the factorials
pub orders_are : (run : Run) (n : ℕ) → Orders run n → n ≡ product (ways run) 16
orders_are run n o = o.value ∙ product_same (radices o.free) (ways run) 16 (ways_same run o.free o.frees)

pub orders_have : (run : Run) → Orders run (product (ways run) 16)
orders_have run = record { free = λ l. length (group Free run l); frees = λ l lt. free_counts run l; value = refl }

-- the digit of a row is its rank
pub digit_is : (run : Run) (l : ℕ) (row : List ℕ) → LinesUp (FreeOf run l) row → Digit run l row (rank row)
digit_is run l row r = rank_counts (group Free run l) row (free_lines run l) (group_rising Free run l) r

-- it is below the radix
pub rank_within : (run : Run) (l : ℕ) (row : List ℕ) → LinesUp (FreeOf run l) row → rank row < ways run l
rank_within run l row r =
    let long = same_length row (group Free run l) (lines_same row (group Free run l) r (free_lines run l)) in
    subst (λ n. rank row < factorial n) long (rank_below row)

-- the number of an order by the ranks of its rows
pub number_is : (run : Run) (co : Order) (n : ℕ) (k : Number run co n) → n ≡ mixed (ways run) (λ l. rank (k.row l)) 16
number_is run co n k =
    k.value ∙ mixed_same (radices k.free) (ways run) k.digit (λ l. rank (k.row l)) 16 (ways_same run k.free k.frees) (λ l lt. count_unique (k.digits l lt) (digit_is run l (k.row l) (k.rows l lt).lines))

ranks_within : (run : Run) (co : Order) (n : ℕ) (k : Number run co n) → Digits (ways run) (λ l. rank (k.row l)) 16
ranks_within run co n k l lt = rank_within run l (k.row l) (k.rows l lt).lines

-- rows with the same digit are the same
rows_one : (run : Run) (l : ℕ) (row other : List ℕ) → LinesUp (FreeOf run l) row → LinesUp (FreeOf run l) other → rank row ≡ rank other → row ≡ other
rows_one run l row other r s e = rank_one row other (lines_same row other r s) e

-- the row of each digit
pub row_right : (run : Run) (n l : ℕ) → l < 16 → LinesUp (FreeOf run l) (row_by run l (digit_at run n l)) × (rank (row_by run l (digit_at run n l)) ≡ digit_at run n l)
row_right run n l lt =
    let below = digits_below (ways run) n 16 (λ m. factorial_pos (length (group Free run m))) l lt in
    let t = nth_right (length (group Free run l)) (group Free run l) (digit_at run n l) refl (group_rising Free run l) below in
    (same_lines (row_by run l (digit_at run n l)) (group Free run l) t.0 (free_lines run l), t.1)

module _ (run : Run) (sound : Sound run) where
  -- the order of a number is a coherence order
  pub order_at_coherent : (n : ℕ) → Coherence run (order_at run n)
  order_at_coherent n = rows_coherent run sound (λ l. row_by run l (digit_at run n l)) (λ l lt. (row_right run n l lt).0)

  -- and has that number
  pub order_at_number : (n : ℕ) → n < product (ways run) 16 → Number run (order_at run n) n
  order_at_number n lt = record {
    free = λ l. length (group Free run l);
    frees = λ l h. free_counts run l;
    row = λ l. row_by run l (digit_at run n l);
    rows = rows_kept run sound (λ l. row_by run l (digit_at run n l)) (λ l h. (row_right run n l h).0);
    digit = digit_at run n;
    digits = λ l h. subst (Digit run l (row_by run l (digit_at run n l))) (row_right run n l h).1 (digit_is run l (row_by run l (digit_at run n l)) (row_right run n l h).0);
    value = sym (digits_whole (ways run) n 16 (excess_none (ways run) n 16 lt));
  }

  -- each order has a number
  pub number_of : (co : Order) → Coherence run co → (n : ℕ) × (n < product (ways run) 16) × Number run co n
  number_of co c =
      let rows : ℕ → List ℕ = λ l. sort co (group Free run l) in (
        mixed (ways run) (λ l. rank (rows l)) 16,
        mixed_below (ways run) (λ l. rank (rows l)) 16 (λ l lt. rank_within run l (rows l) (sorted_row run co l c).lines),
        record {
          free = λ l. length (group Free run l);
          frees = λ l h. free_counts run l;
          row = rows;
          rows = λ l lt. sorted_row run co l c;
          digit = λ l. rank (rows l);
          digits = λ l lt. digit_is run l (rows l) (sorted_row run co l c).lines;
          value = refl;
        },
      )

  pub one_number : (co : Order) (m n : ℕ) → Coherence run co → Number run co m → Number run co n → m ≡ n
  one_number co m n c h k =
      number_is run co m h ∙ mixed_same (ways run) (ways run) (λ l. rank (h.row l)) (λ l. rank (k.row l)) 16 (λ l lt. refl) (λ l lt. ap rank (one_row run co l (h.row l) (k.row l) c (h.rows l lt) (k.rows l lt))) ∙ sym (number_is run co n k)

  pub one_order : (n : ℕ) (co other : Order) → Coherence run co → Coherence run other → Number run co n → Number run other n → co ≡ other
  one_order n co other c d h k =
      let digits = mixed_one (ways run) (λ l. rank (h.row l)) (λ l. rank (k.row l)) 16 (ranks_within run co n h) (ranks_within run other n k) (sym (number_is run co n h) ∙ number_is run other n k) in
      let rows : (l : ℕ) → l < 16 → h.row l ≡ k.row l = λ l lt. rows_one run l (h.row l) (k.row l) (h.rows l lt).lines (k.rows l lt).lines (digits l lt) in
      made_by_rows run sound co h.row c h.rows ∙ order_same _ _ (λ l lt. ap (line run l) (rows l lt)) ∙ sym (made_by_rows run sound other k.row d k.rows)

  pub number_earlier : (m n : ℕ) (co other : Order) → m < n → Coherence run co → Coherence run other → Number run co m → Number run other n → Earlier run co other
  number_earlier m n co other lt c d h k =
      let less : mixed (ways run) (λ l. rank (h.row l)) 16 < mixed (ways run) (λ l. rank (k.row l)) 16 = subst (λ a. a < mixed (ways run) (λ l. rank (k.row l)) 16) (number_is run co m h) (subst (λ b. m < b) (number_is run other n k) lt) in
      let at = mixed_lower (ways run) (λ l. rank (h.row l)) (λ l. rank (k.row l)) 16 (ranks_within run co m h) (ranks_within run other n k) less in
      let l : ℕ = at.place in
      record {
        location = l;
        within = at.within;
        alike = λ j below row r.
            let inside : j < 16 = omega (arith, below, at.within) in
            let same = rows_one run j (h.row j) (k.row j) (h.rows j inside).lines (k.rows j inside).lines (at.alike j below) in
            subst (Row run other j) (sym same ∙ one_row run co j (h.row j) row c (h.rows j inside) r) (k.rows j inside);
        here = h.row l;
        there = k.row l;
        row_here = h.rows l at.within;
        row_there = k.rows l at.within;
        before = rank_earlier (h.row l) (k.row l) (lines_same (h.row l) (k.row l) (h.rows l at.within).lines (k.rows l at.within).lines) at.less;
      }

pub product_law : OneProduct
product_law run = (product (ways run) 16, orders_have run, orders_are run)

pub pairing_law : Pairing
pairing_law run n sound o =
    let e = orders_are run n o in
    record {
      has_order = λ k lt. (order_at run k, order_at_coherent run sound k, order_at_number run sound k (subst (λ m. k < m) e lt));
      one_order = one_order run sound;
      has_number = λ co c. let t = number_of run sound co c in (t.0, subst (λ m. t.0 < m) (sym e) t.1, t.2);
      one_number = one_number run sound;
      earlier = number_earlier run sound;
    }

pub counted_law : Counted
unfolding pairing_law
counted_law run n sound o =
    let p = pairing_law run n sound o in
    count_carried (order_at run)
    (λ k lt. order_at_coherent run sound k)
    (λ j k lt lt' e. one_number run sound (order_at run k) j k (order_at_coherent run sound k) (subst (λ co. Number run co j) e (p.has_order j lt).2) (p.has_order k lt').2)
    (λ co c. let t = p.has_number co c in (t.0, t.1, one_order run sound t.0 (order_at run t.0) co (order_at_coherent run sound t.0) c (p.has_order t.0 t.1).2 t.2))
    (count_numbers n)
