-- What a term of the program is once its variant is known, and the part behind each box. Assumes nothing.
use Rattle.std.proofs.Common.{◌≡◌, ℕ, Box, sym, ap, ◌∙◌}
use Rattle.std.specs.declared.alloc.Global.{Global}
use Rattle.term.specs.declared.term.Term as boxed
use Rattle.term.specs.declared.term.Term.{Test, Complement, Ended, Joined}
use Rattle.term.specs.Terms.{Post, Infix, test, complement, ended, joined, term_of}

pub shape_test : {t u : boxed.Term} {b : Box boxed.Term Global} {k : ℕ} → t ≡ Test k b → u ≡ b.value → term_of t ≡ test k (term_of u)
shape_test {k = k} is e = ap term_of is ∙ ap (λ v. test k (term_of v)) (sym e)

pub shape_complement : {t u : boxed.Term} {b : Box boxed.Term Global} → t ≡ Complement b → u ≡ b.value → term_of t ≡ complement (term_of u)
shape_complement is e = ap term_of is ∙ ap (λ v. complement (term_of v)) (sym e)

pub shape_ended : {t u : boxed.Term} {b : Box boxed.Term Global} {k : ℕ} {p : Post} → t ≡ Ended k p b → u ≡ b.value → term_of t ≡ ended k p (term_of u)
shape_ended {k = k} {p} is e = ap term_of is ∙ ap (λ v. ended k p (term_of v)) (sym e)

pub shape_joined : {t u v : boxed.Term} {a b : Box boxed.Term Global} {k : ℕ} {i : Infix} → t ≡ Joined k i a b → u ≡ a.value → v ≡ b.value → term_of t ≡ joined k i (term_of u) (term_of v)
shape_joined {v = v} {a} {k = k} {i} is e f = ap term_of is ∙ ap (λ w. joined k i (term_of a.value) (term_of w)) (sym f) ∙ ap (λ w. joined k i (term_of w) (term_of v)) (sym e)
