-- How many tokens an expression has, by its parts. Assumes nothing.
use Rattle.std.proofs.Common.{◌≡◌, ℕ, ◌+◌, [], ◌∷◌, length, Box, ap, ◌∙◌, arith, length-append}
use Rattle.std.specs.declared.alloc.Global.{Global}
use Rattle.sentence.specs.declared.sign.Bracket.{Bracket}
use Rattle.sentence.specs.declared.sign.Post.{Post}
use Rattle.sentence.specs.declared.sign.Infix.{Infix}
use Rattle.sentence.specs.declared.tree.Expr.{Expr, Inside, Ended, Joined}
use Rattle.sentence.specs.Exprs.{tree_of}
use Rattle.sentence.specs.Trees.{close_sort, post_sort, infix_sort, spell}

-- an expression's tokens
abbrev pub long : Expr → ℕ
long e = length (spell (tree_of e))

pub long_inside : {e : Expr} {b : Bracket} {x : Box Expr Global} → e ≡ Inside b x → long e ≡ long x.value + 2
long_inside {e} {b} {x} is = ap long is ∙ omega (arith, length-append (spell (tree_of x.value)) (close_sort b ∷ []))

pub long_ended : {e : Expr} {p : Post} {x : Box Expr Global} → e ≡ Ended x p → long e ≡ long x.value + 1
long_ended {e} {p} {x} is = ap long is ∙ omega (arith, length-append (spell (tree_of x.value)) (post_sort p ∷ []))

pub long_joined : {e : Expr} {i : Infix} {x y : Box Expr Global} → e ≡ Joined i x y → long e ≡ long x.value + 1 + long y.value
long_joined {e} {i} {x} {y} is = ap long is ∙ omega (arith, length-append (spell (tree_of x.value)) (infix_sort i ∷ spell (tree_of y.value)))
