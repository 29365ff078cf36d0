-- Terms put together are those that resolving gives. Assumes nothing.
use Rattle.std.proofs.Common.{◌≡◌, ℕ, ◌+◌, List, Box, sym, ap, ◌∙◌, arith}
use Rattle.std.specs.declared.alloc.Global.{Global}
use Rattle.sentence.specs.declared.sign.Bracket.{Bracket}
use Rattle.sentence.specs.declared.sign.Post.{Post}
use Rattle.sentence.specs.declared.sign.Infix.{Infix}
use Rattle.sentence.specs.declared.tree.Expr.{Expr, Inside, Tilde, Ended, Joined}
use Rattle.sentence.specs.Exprs.{tree_of}
use Rattle.term.specs.declared.term.Term as program
use Rattle.term.specs.Terms.{term_of, complement, ended, joined}
use Rattle.sentence.specs.declared.placed.Placed.{Placed}
use Rattle.cat.specs.Sorts.{Tokens}
use Rattle.cat.specs.Resolving.{between, resolve}
use Rattle.cat.specs.Placing.{TermPlaced}
use Rattle.cat.proofs.Sizes.{long, long_inside, long_ended, long_joined}

module _ (found : Tokens) (bound : List ℕ) (at : ℕ) where
  -- an expression of the program is placed
  abbrev pub PlacedAt : ℕ → Expr → Placed program.Term → Type 0
  PlacedAt s e p = TermPlaced found bound s (tree_of e) p

  pub placed_inside : {e y : Expr} {b : Bracket} {x : Box Expr Global} {p q : Placed program.Term} → e ≡ Inside b x → y ≡ x.value → PlacedAt (at + 1) y p → term_of q.item ≡ between b at (term_of p.item) → q.next ≡ p.next + 1 → PlacedAt at e q
  unfolding resolve
  placed_inside {e} {y} {b} {x} is same h term next =
      record {
        term = term ∙ ap (between b at) (h.term ∙ ap (λ z. resolve found bound (at + 1) (tree_of z)) same) ∙ sym (ap (λ z. resolve found bound at (tree_of z)) is);
        next = omega (arith, next, h.next, ap long same, long_inside is);
      }

  pub placed_tilde : {e y : Expr} {x : Box Expr Global} {p q : Placed program.Term} → e ≡ Tilde x → y ≡ x.value → PlacedAt (at + 1) y p → term_of q.item ≡ complement (term_of p.item) → q.next ≡ p.next → PlacedAt at e q
  unfolding resolve
  placed_tilde {e} {y} {x} is same h term next =
      record {
        term = term ∙ ap complement (h.term ∙ ap (λ z. resolve found bound (at + 1) (tree_of z)) same) ∙ sym (ap (λ z. resolve found bound at (tree_of z)) is);
        next = omega (arith, next, h.next, ap long same, ap long is);
      }

  pub placed_ended : {e y : Expr} {s : Post} {x : Box Expr Global} {p q : Placed program.Term} → e ≡ Ended x s → y ≡ x.value → PlacedAt at y p → term_of q.item ≡ ended p.next s (term_of p.item) → q.next ≡ p.next + 1 → PlacedAt at e q
  unfolding resolve
  placed_ended {e} {y} {s} {x} {p} is same h term next =
      record {
        term =
            term ∙ ap (λ k. ended k s (term_of p.item)) (h.next ∙ ap (λ z. at + long z) same)
            ∙ ap (ended (at + long x.value) s) (h.term ∙ ap (λ z. resolve found bound at (tree_of z)) same) ∙ sym (ap (λ z. resolve found bound at (tree_of z)) is);
        next = omega (arith, next, h.next, ap long same, long_ended is);
      }

  pub placed_joined : {e y z : Expr} {i : Infix} {x w : Box Expr Global} {p q r : Placed program.Term} → e ≡ Joined i x w → y ≡ x.value → z ≡ w.value → PlacedAt at y p → PlacedAt (p.next + 1) z q → term_of r.item ≡ joined p.next i (term_of p.item) (term_of q.item) → r.next ≡ q.next → PlacedAt at e r
  unfolding resolve
  placed_joined {e} {y} {z} {i} {x} {w} {p} {q} is same also h g term next =
      let far : p.next ≡ at + long x.value = h.next ∙ ap (λ v. at + long v) same in
      record {
        term =
            term ∙ ap (λ k. joined k i (term_of p.item) (term_of q.item)) far
            ∙ ap (λ t. joined (at + long x.value) i t (term_of q.item)) (h.term ∙ ap (λ v. resolve found bound at (tree_of v)) same)
            ∙ ap (λ t. joined (at + long x.value) i (resolve found bound at (tree_of x.value)) t) (g.term ∙ ap (λ k. resolve found bound (k + 1) (tree_of z)) far ∙ ap (λ v. resolve found bound (at + long x.value + 1) (tree_of v)) also)
            ∙ sym (ap (λ v. resolve found bound at (tree_of v)) is);
        next = omega (arith, next, g.next, far, ap long also, long_joined is);
      }
