-- What resolving the parts of a sentence gives, as the program holds it; inner. Assumes nothing.
use Rattle.std.specs.Prelude.{◌≡◌, ℕ, ◌+◌, List, [], ◌∷◌, map, length, vec_items, Vec}
use Rattle.std.specs.declared.alloc.Global.{Global}
use Rattle.sentence.specs.Trees.{Tree, Statement, spell, spell_binding, spell_more, spell_statement}
use Rattle.term.specs.declared.term.Term as program
use Rattle.term.specs.declared.statement.Binding as program_binding
use Rattle.term.specs.declared.statement.Statement as program_statement
use Rattle.term.specs.Terms.{term_of}
use Rattle.term.specs.Statements.{binding_of, statement_of}
use Rattle.sentence.specs.declared.placed.Placed.{Placed}
use Rattle.token.specs.Views.{lexeme_view}
use Rattle.cat.specs.declared.scope.Scope.{Scope}
use Rattle.cat.specs.Sorts.{Tokens}
use Rattle.cat.specs.Resolving.{resolve, resolve_binding, resolve_group, resolve_statement, bound_after}

-- the tokens of a scope, and those of the names that are bound in it
abbrev pub tokens_of : Scope → Tokens
tokens_of s = map lexeme_view s.lexemes.now

abbrev pub bound_of : Scope → List ℕ
bound_of s = vec_items s.bound

-- the term of an expression that begins at a token, and the token behind it
pub record TermPlaced (found : Tokens) (bound : List ℕ) (at : ℕ) (t : Tree) (p : Placed program.Term) : Type 0 where
  pub term : term_of p.item ≡ resolve found bound at t
  pub next : p.next ≡ at + length (spell t)

-- a binding whose name stands at a token
pub record BindingPlaced (found : Tokens) (bound before : List ℕ) (at : ℕ) (t : Tree) (p : Placed program_binding.Binding) : Type 0 where
  pub binding : binding_of p.item ≡ resolve_binding found bound before at t
  pub next : p.next ≡ at + length (spell_binding t)

-- the bindings of a group, the first name at a token
pub record GroupPlaced (found : Tokens) (bound : List ℕ) (at : ℕ) (t : Tree) (ts : List Tree) (p : Placed (Vec program_binding.Binding Global)) : Type 0 where
  pub bindings : map binding_of (vec_items p.item) ≡ resolve_group found bound [] at (t ∷ ts)
  pub next : p.next ≡ at + length (spell_binding t) + length (spell_more ts)

-- a statement that begins at a token, and what is bound behind it
pub record StatementPlaced (found : Tokens) (bound later : List ℕ) (at : ℕ) (s : Statement) (p : Placed program_statement.Statement) : Type 0 where
  pub statement : statement_of p.item ≡ resolve_statement found bound at s
  pub binds : later ≡ bound_after bound at s
  pub next : p.next ≡ at + length (spell_statement s)
