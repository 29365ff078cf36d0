use Rattle.std.proofs.Common.{map, length, vec_items, subst, ◌∙◌}
use Rattle.sentence.specs.Statements.{statement_of, sentence_of}
use Rattle.sentence.specs.Trees.{spell_text}
use Rattle.token.specs.Views.{lexeme_view}
use Rattle.cat.specs.Placing.{bound_of, StatementPlaced}
use Rattle.cat.specs.Resolving.{resolved_statements}
use Rattle.cat.proofs.Stating.{states_more, states_done}
use Rattle.cat.proofs.statement.statements.Goals as goal

pub loop-said-preserved : goal.loop-said-preserved
loop-said-preserved c = (
  c.in_ok-placed.ensures.tokens ∙ c.loop-said.invariant.0,
  states_more (map lexeme_view c.args.lexemes.now) c.deref-said-items.result.now (resolved_statements (map lexeme_view c.args.lexemes.now) (sentence_of c.args.sentence.now))
      (length (spell_text (sentence_of c.args.sentence.now))) c.loop-said.said-index c.loop-said.at (bound_of c.loop-said.scope) (vec_items c.loop-said.found) c.said-item.result (bound_of c.statement.new.self)
      c.in_ok-placed.placed (vec_items c.push.new.self) c.loop-said.invariant.1 c.loop-said-test.true c.said-item.is
      (subst (λ f. StatementPlaced f (bound_of c.loop-said.scope) (bound_of c.statement.new.self) c.loop-said.at (statement_of c.said-item.result) c.in_ok-placed.placed) c.loop-said.invariant.0 c.in_ok-placed.ensures.placed)
      c.in_ok-push.ensures.items,
)

pub returns : goal.returns
returns c =
    states_done (map lexeme_view c.args.lexemes.now) c.deref-said-items.result.now (resolved_statements (map lexeme_view c.args.lexemes.now) (sentence_of c.args.sentence.now))
    (length (spell_text (sentence_of c.args.sentence.now))) c.loop-said.said-index c.loop-said.at (bound_of c.loop-said.scope) (vec_items c.loop-said.found) c.loop-said.invariant.1 c.loop-said-test.false
