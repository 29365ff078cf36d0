use Rattle.std.proofs.Common.{◌≡◌, refl, rules, tests}
use Rattle.sentence.specs.declared.statement.Statement.TheVariants.{Let}
use Rattle.sentence.specs.Machine.{recs, speaks, let_seen, name_due, first, feed}
use Rattle.sentence.specs.Exprs.{tree_of}
use Rattle.sentence.specs.Statements.{Stated}
use Rattle.sentence.proofs.Looking.{not_so, handed}
use Rattle.sentence.proofs.Phrases.{goes_let, stuck_let, step_stated}
use Rattle.sentence.proofs.parser.Parser.binds.Goals as goal

pub returns-then-stands : goal.returns-then-stands
unfolding feed
returns-then-stands c =
    step_stated c.args.self.sorts.now (λ p. let_seen p) (λ p. name_due p first) c.args.at (speaks recs) (c.stands.ensures.0 c.if-stands.true) (λ p. refl) c.group.result c.group.ensures

pub returns-in_err-bound : goal.returns-in_err-bound
returns-in_err-bound c =
    handed (Stated (λ p. let_seen p) c.args.self.sorts.now c.args.at) c.from_residual.result c.in_err-bound.field-0.0 c.from_residual.ensures
    (stuck_let c.args.self.sorts.now c.args.at c.in_err-bound.field-0.0 (not_so _ c.stands.ensures c.if-stands.false) c.in_err-bound.ensures)

pub returns : goal.returns
returns c =
    let made : c.map.result.item ≡ Let c.in_ok-bound.bound.item = search (rules, tests) in
    rw (made, c.map.ensures.next)
    (goes_let c.args.self.sorts.now c.args.at (tree_of c.in_ok-bound.bound.item.tree) c.in_ok-bound.bound.next (not_so _ c.stands.ensures c.if-stands.false) c.in_ok-bound.ensures)
