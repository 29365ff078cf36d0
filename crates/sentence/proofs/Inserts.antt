-- Insertion into a tree: where it goes, how it is written, and that it keeps the grouping. Assumes nothing.
use Rattle.std.proofs.Common.{◌≡◌, ℕ, ◌<◌, ◌≤◌, Bool, true, false, cond, leb, sym, refl, ap, ◌∙◌, arith}
use Rattle.std.proofs.lemmas.Bool.{leb-true, leb-false, le-leb, lt-leb}
use Rattle.sentence.specs.Trees.{Infix, bar, product, Post, Tree, atom, inside, tilde, ended, joined, rank, level, bound}
use Rattle.sentence.specs.Machine.{insert, suffix, fill, asked, Wait, nothing, behind, tilded}

-- infix signs bind looser than all else; a right operand holds together tighter than its sign
pub rank_most : (i : Infix) → rank i ≤ 5
rank_most bar = omega arith
rank_most i = omega arith

pub bound_most : (i : Infix) → bound i ≤ 7
bound_most bar = omega arith
bound_most i = omega arith

pub bound_above : (i : Infix) → rank i < bound i
bound_above bar = omega arith
bound_above i = omega arith

-- a tighter sign may stand in the right operand
pub bound_within : (i j : Infix) → rank i < rank j → bound i ≤ rank j
bound_within product j h = absurd (omega (arith, rank_most j))
bound_within i j h = h

-- a tighter expression is inserted whole
pub insert_tight : (t : Tree) (i : Infix) (v : Tree) → rank i ≤ level t → insert t i v ≡ joined i t v
unfolding insert
insert_tight (joined j a b) i v h = rw (le-leb (rank i) (rank j) h) refl
insert_tight t i v h = refl

-- into a looser one the sign goes down the right operand
pub insert_loose : (j : Infix) (a b : Tree) (i : Infix) (v : Tree) → rank j < rank i → insert (joined j a b) i v ≡ joined j a (insert b i v)
unfolding insert
insert_loose j a b i v h = rw (lt-leb (rank i) (rank j) h) refl

-- one of the two
pub order : (a b : ℕ) → (t : Bool) → leb a b ≡ t → (P : Type 0) → (a ≤ b → P) → (b < a → P) → P
order a b true e P f g = f (leb-true a b e)
order a b false e P f g = g (leb-false a b e)

-- a tighter sign goes into the operand that came last
pub insert_insert : (q : Tree) (p : Infix) (l : Tree) (i : Infix) (r : Tree) → rank p < rank i → rank i ≤ level l → insert (insert q p l) i r ≡ insert q p (joined i l r)
insert_insert q p l i r tighter h = go q
  where
    here : (q : Tree) → rank p ≤ level q → insert (insert q p l) i r ≡ insert q p (joined i l r)
    here q k =
        ap (λ t. insert t i r) (insert_tight q p l k)
        ∙ insert_loose p q l i r tighter
        ∙ ap (joined p q) (insert_tight l i r h)
        ∙ sym (insert_tight q p (joined i l r) k)

    go : (q : Tree) → insert (insert q p l) i r ≡ insert q p (joined i l r)
    go (atom m) = here (atom m) (omega (arith, rank_most p))
    go (inside b t) = here (inside b t) (omega (arith, rank_most p))
    go (tilde t) = here (tilde t) (omega (arith, rank_most p))
    go (ended t s) = here (ended t s) (omega (arith, rank_most p))
    go (joined j a b) =
        let ih = go b in
        order (rank p) (rank j) (leb (rank p) (rank j)) refl (insert (insert (joined j a b) p l) i r ≡ insert (joined j a b) p (joined i l r)) (here (joined j a b))
        (λ k.
        ap (λ t. insert t i r) (insert_loose j a b p l k)
        ∙ insert_loose j a (insert b p l) i r (omega arith)
        ∙ ap (joined j a) ih
        ∙ sym (insert_loose j a b p (joined i l r) k))

-- a sign behind goes into the operand that came last
pub suffix_insert : (q : Tree) (i : Infix) (x : Tree) (s : Post) → suffix (insert q i x) s ≡ insert q i (suffix x s)
unfolding insert suffix
suffix_insert (atom l) i x s = refl
suffix_insert (inside b t) i x s = refl
suffix_insert (tilde t) i x s = refl
suffix_insert (ended t p) i x s = refl
suffix_insert (joined j a b) i x s = go (leb (rank i) (rank j)) (suffix_insert b i x s)
  where
    go : (c : Bool) → suffix (insert b i x) s ≡ insert b i (suffix x s) →
        suffix (cond c (joined i (joined j a b) x) (joined j a (insert b i x))) s ≡ cond c (joined i (joined j a b) (suffix x s)) (joined j a (insert b i (suffix x s)))
    go true ih = refl
    go false ih = ap (joined j a) ih

pub suffix_fill : (w : Wait) (x : Tree) (s : Post) → suffix (fill w x) s ≡ fill w (suffix x s)
unfolding fill suffix
suffix_fill nothing x s = refl
suffix_fill (behind q i) x s = suffix_insert q i x s
suffix_fill (tilded w) x s = suffix_fill w (tilde x) s

-- behind what holds together it stands by itself
pub suffix_tight : (t : Tree) (s : Post) → 7 ≤ level t → suffix t s ≡ ended t s
unfolding suffix
suffix_tight (tilde t) s h = absurd (omega arith)
suffix_tight (joined i a b) s h = absurd (omega (arith, rank_most i))
suffix_tight t s h = refl

-- no operand has to hold together tighter than an atom
pub asked_most : (w : Wait) → asked w ≤ 7
asked_most nothing = omega arith
asked_most (behind q i) = bound_most i
asked_most (tilded w) = omega arith

-- a sign tight enough joins the operand that came last
pub insert_fill : (w : Wait) (l : Tree) (i : Infix) (r : Tree) → asked w ≤ rank i → rank i ≤ level l → insert (fill w l) i r ≡ fill w (joined i l r)
unfolding fill
insert_fill nothing l i r k h = insert_tight l i r h
insert_fill (behind q p) l i r k h = insert_insert q p l i r (omega (arith, bound_above p)) h
insert_fill (tilded w) l i r k h = absurd (omega (arith, rank_most i))
