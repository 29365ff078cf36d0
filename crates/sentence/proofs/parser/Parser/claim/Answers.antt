use Rattle.sentence.specs.Exprs.{tree_of}
use Rattle.sentence.specs.Statements.{mark_of}
use Rattle.sentence.proofs.Phrases.{claim_goes}
use Rattle.sentence.proofs.parser.Parser.claim.Goals as goal

pub returns : goal.returns
returns c =
    claim_goes c.args.self.sorts.now c.args.at c.args.flag c.args.negated c.args.word (tree_of c.in_ok-piece.piece.item) c.in_ok-piece.piece.next (mark_of c.in_ok-mark.mark.item) c.in_ok-mark.mark.next
    c.in_ok-piece.ensures.led c.in_ok-mark.ensures
