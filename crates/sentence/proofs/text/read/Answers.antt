use Rattle.std.proofs.Common.{vec_items}
use Rattle.sentence.specs.Reading.{ReadAs}
use Rattle.sentence.proofs.Looking.{handed}
use Rattle.sentence.proofs.Readings.{reading_first, reading_more, reading_done, reading_stuck}
use Rattle.sentence.proofs.text.read.Goals as goal

pub loop-at-init : goal.loop-at-init
loop-at-init c =
    reading_first c.args.sorts.now c.stands-titled.result (vec_items c.new-statements.result) c.from-at.result c.stands-titled.ensures c.from-at.ensures c.new-statements.ensures.items

pub returns-in_err-said : goal.returns-in_err-said
returns-in_err-said c =
    handed (ReadAs c.args.sorts.now) c.from_residual.result c.in_err-said.field-0.0 c.from_residual.ensures
    (reading_stuck c.args.sorts.now c.stands-titled.result (vec_items c.loop-at.statements) c.loop-at.at c.in_err-said.field-0.0 c.loop-at.invariant c.in_err-said.ensures)

pub loop-at-preserved : goal.loop-at-preserved
loop-at-preserved c =
    reading_more c.args.sorts.now c.stands-titled.result (vec_items c.loop-at.statements) (vec_items c.push.new.self) c.in_ok-said.said.item c.loop-at.at c.in_ok-said.said.next
    c.loop-at.invariant c.in_ok-said.ensures c.in_ok-push.ensures.items

pub returns : goal.returns
returns c = reading_done c.args.sorts.now c.stands-titled.result (vec_items c.loop-at.statements) c.loop-at.at c.loop-at.invariant c.loop-at-test.false
