use Rattle.sentence.specs.Statements.{Marks, mark_of}
use Rattle.sentence.proofs.Looking.{not_so, handed}
use Rattle.sentence.proofs.Phrases.{mark_plain, mark_flag, mark_label, mark_nameless}
use Rattle.sentence.proofs.parser.Parser.mark.Goals as goal

pub returns-in_err-next : goal.returns-in_err-next
returns-in_err-next c =
    handed (Marks c.args.self.sorts.now c.args.at c.args.flag) c.from_residual.result c.in_err-next.field-0.0 c.from_residual.ensures
    (mark_nameless c.args.self.sorts.now c.args.at c.args.flag c.in_err-next.field-0.0 (c.stands.ensures.0 c.if-stands.true) c.in_err-next.ensures.lacks)

pub returns-in_ok-next : goal.returns-in_ok-next
returns-in_ok-next c =
    mark_label c.args.self.sorts.now c.args.at c.args.flag (mark_of c.labelled.result) c.in_ok-next.next (c.stands.ensures.0 c.if-stands.true) c.in_ok-next.ensures.stands c.labelled.ensures

pub returns-then-flag : goal.returns-then-flag
returns-then-flag c = mark_flag c.args.self.sorts.now c.args.at c.args.flag c.if-flag.true c.requires.halts (not_so _ c.stands.ensures c.if-stands.false)

pub returns-else-flag : goal.returns-else-flag
returns-else-flag c = mark_plain c.args.self.sorts.now c.args.at c.args.flag c.if-flag.false c.requires.within c.requires.halts (not_so _ c.stands.ensures c.if-stands.false)
