use Rattle.std.proofs.Common.{◌≡◌, map, length, vec_items}
use Rattle.sentence.specs.Statements.{sentence_of}
use Rattle.sentence.specs.Trees.{spell_text}
use Rattle.token.specs.Views.{lexeme_view}
use Rattle.cat.specs.Placing.{tokens_of, bound_of}
use Rattle.cat.specs.Resolving.{resolved_statements}
use Rattle.cat.proofs.Stating.{StatesOn}
use Rattle.cat.proofs.statement.statements.Given as goal

abbrev pub invariant-loop-said : goal.invariant-loop-said
invariant-loop-said l =
    (tokens_of l.scope ≡ map lexeme_view l.lexemes)
    × StatesOn (map lexeme_view l.lexemes) l.said-items (resolved_statements (map lexeme_view l.lexemes) (sentence_of l.sentence)) (length (spell_text (sentence_of l.sentence))) l.said-index l.at
    (bound_of l.scope) (vec_items l.found)
