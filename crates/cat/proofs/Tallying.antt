-- Counting the checks among statements. Assumes nothing.
use Rattle.std.proofs.Common.{◌≡◌, Bool, true, false, cond, List, [], ◌∷◌, length, count_by, refl, arith}
use Rattle.std.proofs.lemmas.List.Sums.{sum_by-cons}
use Rattle.term.specs.declared.statement.Statement as program
use Rattle.term.specs.declared.statement.Statement.TheVariants.{Let, Group, Check}
use Rattle.term.specs.Statements.{statements_of, claims}

-- whether a statement is a check
abbrev pub is_check : program.Statement → Bool
is_check (Let b) = false
is_check (Group bs) = false
is_check (Check c) = true

-- the checks are as many as the statements that are one
pub checks_counted : (ss : List program.Statement) → count_by is_check ss ≡ length (claims (statements_of ss))
unfolding claims
checks_counted [] = refl
checks_counted (Let b ∷ ss) = omega (arith, checks_counted ss)
checks_counted (Group bs ∷ ss) = omega (arith, checks_counted ss)
checks_counted (Check c ∷ ss) = omega (arith, sum_by-cons (λ s. cond (is_check s) 1 0) (Check c) ss, checks_counted ss)
