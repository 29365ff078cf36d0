-- The orders that lines make are the coherence orders of a sound run, and each is made by its rows. Assumes nothing.
use Rattle.std.proofs.Common.{◌≡◌, ℕ, ◌<◌, Bool, true, ◌⊎◌, List, ◌++◌, Decides, sym, refl, ap, ◌∙◌, subst, inl, inr, ⊎_elim}
use mathlib.Core.Path.{fun_ext}
use Rattle.std.proofs.lemmas.Bool.Decides.{Decides-below_or, same_from_decides}
use Rattle.run.specs.Runs.{Run}
use Rattle.run.specs.Rules.{Sound}
use Rattle.run.specs.Tests.{any_below}
use Rattle.run.proofs.Below.{any_same}
use Rattle.coherence.specs.Lines.{First, Free, Last}
use Rattle.coherence.specs.Perms.{LinesUp, Sorted}
use Rattle.coherence.specs.Coherence.{WriteOf, FreeOf, Order, Coherence}
use Rattle.coherence.specs.Numbers.{Row}
use Rattle.coherence.specs.Lines.{group, line, Precedes, precedes, order_of}
use Rattle.coherence.proofs.Perms.{sorted_apart}
use Rattle.coherence.proofs.Rows.{precedes_left, precedes_right, precedes_never, precedes_through, precedes_total, precedes_in_left, precedes_in_right, precedes_decided, sorted_from, sorted_precedes, sorted_one, sort, sort_in, sort_has, sort_sorted}
use Rattle.coherence.proofs.Groups.{Line, one_event, free_write, free_in, free_has, group_apart, located, line_right, line_sorted}

-- the order of lines relates what stands so in one of them
pub below_decided : (lines : ℕ → List ℕ) (a b m : ℕ) → Decides (any_below (λ l. precedes (lines l) a b) m) ((l : ℕ) × (l < m) × Precedes (lines l) a b)
unfolding any_below
below_decided lines a b m =
    let p : ℕ → Bool = λ l. precedes (lines l) a b in
    Decides-below_or p (λ l. Precedes (lines l) a b) (any_below p) (λ l. precedes_decided (lines l) a b) refl (λ _. refl) m

pub order_decided : (lines : ℕ → List ℕ) (a b : ℕ) → Decides (order_of lines a b) ((l : ℕ) × (l < 16) × Precedes (lines l) a b)
order_decided lines a b = below_decided lines a b 16

-- a write has one location
pub one_location : (run : Run) (l m n : ℕ) → WriteOf run l n → WriteOf run m n → l ≡ m
one_location run l m n w v =
    sym w.place ∙ ap (λ e. e.location) (one_event run n w.event v.event w.stands v.stands) ∙ v.place

-- nothing is before what is before it
pub never_both : (run : Run) (co : Order) → Coherence run co → (a b : ℕ) → co a b ≡ true → co b a ≡ true → ⊥
never_both run co c a b h k = c.irreflexive a (c.transitive a b a h k)

-- two coherence orders, the one within the other, are the same
pub coherent_agree : (run : Run) (co other : Order) → Coherence run co → Coherence run other → ((a b : ℕ) → co a b ≡ true → other a b ≡ true) → co ≡ other
coherent_agree run co other c d within =
    fun_ext (λ a. fun_ext (λ b. same_from_decides (co a b) (other a b) (λ h. h, λ h. h)
    (λ f. let w = d.only a b f in ⊎_elim (λ h. h) (λ h. absurd (never_both run other d a b f (within b a h))) (c.total w.0 a b w.1 w.2 (λ same. d.irreflexive b (subst (λ x. other x b ≡ true) same f))), within a b)))

-- an order has one row at a location
pub one_row : (run : Run) (co : Order) (l : ℕ) (row other : List ℕ) → Coherence run co → Row run co l row → Row run co l other → row ≡ other
one_row run co l row other c r s =
    sorted_one co row other (never_both run co c) r.sorted s.sorted (λ z h. s.lines.all z (r.lines.only z h)) (λ z h. r.lines.all z (s.lines.only z h))

-- and has one
pub sorted_row : (run : Run) (co : Order) (l : ℕ) → Coherence run co → Row run co l (sort co (group Free run l))
sorted_row run co l c =
    let base : List ℕ = group Free run l in
    let sorted : Sorted co (sort co base) = sort_sorted co base (group_apart Free run l) c.transitive (λ x y h k ne. c.total l x y (free_write run l x (free_in run l x h)) (free_write run l y (free_in run l y k)) ne) in
    record {
      lines = record {
        apart = sorted_apart co c.irreflexive (sort co base) sorted;
        only = λ x h. free_in run l x (sort_in co x base h);
        all = λ x f. sort_has co x base (free_has run l x f);
      };
      sorted = sorted;
    }

-- lines that are the same below 16 make the same order
pub order_same : (lines others : ℕ → List ℕ) → ((l : ℕ) → l < 16 → lines l ≡ others l) → order_of lines ≡ order_of others
order_same lines others same = fun_ext (λ a. fun_ext (λ b. any_same _ _ 16 (λ l lt. ap (λ xs. precedes xs a b) (same l lt))))

module _ (run : Run) (sound : Sound run) where
  module _ (lines : ℕ → List ℕ) (right : (l : ℕ) → l < 16 → Line run l (lines l)) where
    -- it relates what stands so
    joined_from : (l a b : ℕ) → l < 16 → Precedes (lines l) a b → order_of lines a b ≡ true
    joined_from l a b lt p = (order_decided lines a b).1 (l, lt, p)

    lines_through : (a b c : ℕ) → order_of lines a b ≡ true → order_of lines b c ≡ true → order_of lines a c ≡ true
    lines_through a b c h k =
        let s = (order_decided lines a b).0 h in
        let t = (order_decided lines b c).0 k in
        let left = (right s.0 s.1).only b (precedes_right (lines s.0) a b s.2) in
        let here = (right t.0 t.1).only b (precedes_left (lines t.0) b c t.2) in
        let same = one_location run t.0 s.0 b here left in
        joined_from s.0 a c s.1 (precedes_through (lines s.0) a b c (right s.0 s.1).apart s.2 (subst (λ l. Precedes (lines l) b c) same t.2))

    lines_total : (l a b : ℕ) → WriteOf run l a → WriteOf run l b → (a ≡ b → ⊥) → (order_of lines a b ≡ true) ⊎ (order_of lines b a ≡ true)
    lines_total l a b w v ne =
        let lt = located run sound l a w in
        let r = right l lt in
        ⊎_elim (λ p. inl (joined_from l a b lt p)) (λ p. inr (joined_from l b a lt p)) (precedes_total (lines l) a b (r.all a w) (r.all b v) ne)

    -- the lines of all locations make a coherence order
    pub lines_coherent : Coherence run (order_of lines)
    lines_coherent = record {
      only = λ a b h. let t = (order_decided lines a b).0 h in (t.0, (right t.0 t.1).only a (precedes_left (lines t.0) a b t.2), (right t.0 t.1).only b (precedes_right (lines t.0) a b t.2));
      irreflexive = λ a h. let t = (order_decided lines a a).0 h in precedes_never (lines t.0) a (right t.0 t.1).apart t.2;
      transitive = lines_through;
      total = lines_total;
      first = λ l a b i w ne. let lt = located run sound l b w in joined_from l a b lt ((right l lt).first a b i w ne);
      last = λ l a b w s ne. let lt = located run sound l a w in joined_from l a b lt ((right l lt).last a b w s ne);
    }

  module _ (rows : ℕ → List ℕ) (free : (l : ℕ) → l < 16 → LinesUp (FreeOf run l) (rows l)) where
    -- any rows of the free writes make a coherence order
    pub rows_coherent : Coherence run (order_of (λ l. line run l (rows l)))
    rows_coherent = lines_coherent (λ l. line run l (rows l)) (λ l lt. line_right run sound l (rows l) (free l lt))

    -- which has those rows
    pub rows_kept : (l : ℕ) → l < 16 → Row run (order_of (λ m. line run m (rows m))) l (rows l)
    rows_kept l lt = record {
      lines = free l lt;
      sorted = sorted_from _ (rows l) (λ a b p. (order_decided (λ m. line run m (rows m)) a b).1 (l, lt, precedes_in_right (group First run l) (rows l ++ group Last run l) a b (precedes_in_left (rows l) (group Last run l) a b p)));
    }

  -- a coherence order is the one that its rows make
  pub made_by_rows : (co : Order) (rows : ℕ → List ℕ) → Coherence run co → ((l : ℕ) → l < 16 → Row run co l (rows l)) → co ≡ order_of (λ l. line run l (rows l))
  made_by_rows co rows c r =
      sym (coherent_agree run (order_of (λ l. line run l (rows l))) co (rows_coherent rows (λ l lt. (r l lt).lines)) c
      (λ a b h. let t = (order_decided (λ l. line run l (rows l)) a b).0 h in
      sorted_precedes co (line run t.0 (rows t.0)) a b (line_sorted run sound co t.0 (rows t.0) c (r t.0 t.1).lines (r t.0 t.1).sorted) t.2))
