use Rattle.std.proofs.Common.{◌≡◌, rules, tests}
use Rattle.sentence.specs.Exprs.{tree_of}
use Rattle.sentence.specs.Statements.{Binds}
use Rattle.sentence.proofs.Looking.{handed}
use Rattle.sentence.proofs.Phrases.{goes_bound, unbound_name, unbound_equals, unbound_tree}
use Rattle.sentence.proofs.parser.Parser.binding.Goals as goal

pub returns-in_err-equals : goal.returns-in_err-equals
returns-in_err-equals c =
    handed (Binds c.args.self.sorts.now c.args.at) c.from_residual.result c.in_err-equals.field-0.0 c.from_residual.ensures
    (unbound_name c.args.self.sorts.now c.args.at c.in_err-equals.field-0.0 c.in_err-equals.ensures.lacks)

pub returns-in_err-start : goal.returns-in_err-start
returns-in_err-start c =
    handed (Binds c.args.self.sorts.now c.args.at) c.from_residual-in_err-start.result c.in_err-start.field-0.0 c.from_residual-in_err-start.ensures
    (unbound_equals c.args.self.sorts.now c.args.at c.in_ok-equals.equals c.in_err-start.field-0.0 c.in_ok-equals.ensures.stands c.in_err-start.ensures.lacks)

pub returns-in_err-piece : goal.returns-in_err-piece
returns-in_err-piece c =
    handed (Binds c.args.self.sorts.now c.args.at) c.from_residual-in_err-piece.result c.in_err-piece.field-0.0 c.from_residual-in_err-piece.ensures
    (unbound_tree c.args.self.sorts.now c.args.at c.in_ok-equals.equals c.in_ok-start.start c.in_err-piece.field-0.0 c.in_ok-equals.ensures.stands c.in_ok-start.ensures.stands c.in_err-piece.ensures.led)

pub returns : goal.returns
returns c =
    let made : c.map.result.item.tree ≡ c.in_ok-piece.piece.item = search (rules, tests) in
    rw (made, c.map.ensures.next)
    (goes_bound c.args.self.sorts.now c.args.at c.in_ok-equals.equals c.in_ok-start.start (tree_of c.in_ok-piece.piece.item) c.in_ok-piece.piece.next
    c.in_ok-equals.ensures.stands c.in_ok-start.ensures.stands c.in_ok-piece.ensures.led c.in_ok-piece.ensures.halts)
