-- Terms: expressions whose names are resolved. Assumes nothing.
use Rattle.std.specs.Prelude.{ℕ}
pub use Rattle.sentence.specs.declared.sign.Post.{Post}
pub use Rattle.sentence.specs.declared.sign.Post.TheVariants.{Plus as plus, Closure as closure, Question as question, Inverse as inverse}
pub use Rattle.sentence.specs.declared.sign.Infix.{Infix}
pub use Rattle.sentence.specs.declared.sign.Infix.TheVariants.{Bar as bar, Semicolon as semicolon, Backslash as backslash, Ampersand as ampersand, Product as product}
pub use Rattle.term.specs.declared.term.Given.{Given}
use Rattle.term.specs.declared.term.Term as boxed
use Rattle.term.specs.declared.term.Term.TheVariants.{Given as Given', Bound, Unbound, Test', Complement', Ended', Joined'}

-- an expression: what is given; a bound name, by its token and the number of its binding; a name that means nothing there; identity on a set; a complement; an operand and a sign behind it; two operands and the sign between them. A number at first is the token's
pub data Term : Type 0 where
  given : Given → Term
  bound : ℕ → ℕ → Term
  unbound : ℕ → Term
  test : ℕ → Term → Term
  complement : Term → Term
  ended : ℕ → Post → Term → Term
  joined : ℕ → Infix → Term → Term → Term

-- the term of the program, without its boxes
abbrev pub term_of : boxed.Term → Term
term_of (Given' g) = given g
term_of (Bound k i) = bound k i
term_of (Unbound k) = unbound k
term_of (Test' k p t) = test k (term_of t)
term_of (Complement' p t) = complement (term_of t)
term_of (Ended' k s p t) = ended k s (term_of t)
term_of (Joined' k i p l q r) = joined k i (term_of l) (term_of r)
