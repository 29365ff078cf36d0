-- Going through the statements of a sentence. Assumes nothing.
use Rattle.std.proofs.Common.{◌≡◌, ℕ, ◌+◌, ◌<◌, ◌≤◌, List, [], ◌∷◌, ◌++◌, length, get_or, drop, sym, ap, ◌∙◌, append_assoc, append-nil, arith, length-append}
use Rattle.std.proofs.lemmas.List.{drop_all, drop_more, map-append}
use Rattle.sentence.specs.declared.statement.Statement as said
use Rattle.sentence.specs.Statements.{statement_of as said_of, statements_of as saids_of}
use Rattle.sentence.specs.Trees.{spell_statement, spell_statements}
use Rattle.term.specs.declared.statement.Statement as program
use Rattle.term.specs.Statements as resolved
use Rattle.term.specs.Statements.{mark_of, statement_of, statements_of}
use Rattle.sentence.specs.declared.placed.Placed.{Placed}
use Rattle.cat.specs.Sorts.{Tokens}
use Rattle.cat.specs.Resolving.{resolve_statement, resolve_statements, bound_after}
use Rattle.cat.specs.Placing.{StatementPlaced}

-- the statements that are left, one step on and at the end
rest_more : (ss : List said.Statement) (i : ℕ) (s : said.Statement) → i < length ss → s ≡ get_or ss i s → saids_of (drop i ss) ≡ said_of s ∷ saids_of (drop (i + 1) ss)
rest_more ss i s lt is = ap saids_of (drop_more ss i s lt) ∙ ap (λ x. said_of x ∷ saids_of (drop (i + 1) ss)) (sym is)

rest_none : (ss : List said.Statement) (i : ℕ) → length ss ≤ i → saids_of (drop i ss) ≡ []
rest_none ss i past = ap saids_of (drop_all i ss past)

-- the statements so far, and those that are left, are all of them; and their tokens end where the text does
pub record StatesOn (found : Tokens) (ss : List said.Statement) (all : List resolved.Statement) (end i at : ℕ) (bound : List ℕ) (so_far : List program.Statement) : Type 0 where
  pub whole : statements_of so_far ++ resolve_statements found bound at (saids_of (drop i ss)) ≡ all
  pub ends : at + length (spell_statements (saids_of (drop i ss))) ≡ end

module _ (found : Tokens) (ss : List said.Statement) (all : List resolved.Statement) (end i at : ℕ) (bound : List ℕ) (so_far : List program.Statement) where
  pub states_more : (s : said.Statement) (later : List ℕ) (p : Placed program.Statement) (longer : List program.Statement) → StatesOn found ss all end i at bound so_far → i < length ss → s ≡ get_or ss i s → StatementPlaced found bound later at (said_of s) p → longer ≡ so_far ++ (p.item ∷ []) → StatesOn found ss all end (i + 1) p.next later longer
  unfolding resolve_statements
  states_more s later p longer h lt is g more =
      let r = ap (λ x. length (spell_statements x)) (rest_more ss i s lt is) in
      record {
        whole =
            ap (λ x. statements_of x ++ resolve_statements found later p.next (saids_of (drop (i + 1) ss))) more
            ∙ ap (λ x. x ++ resolve_statements found later p.next (saids_of (drop (i + 1) ss))) (map-append statement_of so_far (p.item ∷ []))
            ∙ append_assoc (statements_of so_far) (statement_of p.item ∷ []) (resolve_statements found later p.next (saids_of (drop (i + 1) ss)))
            ∙ ap (λ x. statements_of so_far ++ (x ∷ resolve_statements found later p.next (saids_of (drop (i + 1) ss)))) g.statement
            ∙ ap (λ x. statements_of so_far ++ (resolve_statement found bound at (said_of s) ∷ resolve_statements found x p.next (saids_of (drop (i + 1) ss)))) g.binds
            ∙ ap (λ k. statements_of so_far ++ (resolve_statement found bound at (said_of s) ∷ resolve_statements found (bound_after bound at (said_of s)) k (saids_of (drop (i + 1) ss)))) g.next
            ∙ ap (λ x. statements_of so_far ++ resolve_statements found bound at x) (sym (rest_more ss i s lt is)) ∙ h.whole;
        ends = omega (arith, r, h.ends, g.next, length-append (spell_statement (said_of s)) (spell_statements (saids_of (drop (i + 1) ss))));
      }

  pub states_done : StatesOn found ss all end i at bound so_far → length ss ≤ i → statements_of so_far ≡ all
  unfolding resolve_statements
  states_done h past = sym (append-nil (statements_of so_far)) ∙ ap (λ x. statements_of so_far ++ resolve_statements found bound at x) (sym (rest_none ss i past)) ∙ h.whole
