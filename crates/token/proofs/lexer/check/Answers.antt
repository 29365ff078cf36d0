use Rattle.std.proofs.Common.{Err, sym, subst, rules}
use Rattle.token.specs.Lexings.{Told}
use Rattle.token.proofs.Walks.{Reached}
use Rattle.token.proofs.Keeping.{piece_given, fault_given, reached_on}
use Rattle.token.proofs.lexer.check.Goals as goal

pub returns-in_err-piece : goal.returns-in_err-piece
returns-in_err-piece c =
    let told : Told c.args.text.now (Err c.in_err-piece.field-0.0) =
    fault_given c.args.text.now c.loop-piece.piece-iterator c.next.new.self c.in-Some.piece c.in_err-piece.field-0.0 c.requires c.loop-piece.invariant.3 c.loop-piece.invariant.2 c.in-Some.ensures.steps c.in_err-piece.was in
    search rules

pub loop-piece-preserved : goal.loop-piece-preserved
loop-piece-preserved c =
    let p = piece_given c.args.text.now c.loop-piece.piece-iterator c.next.new.self c.in-Some.piece c.in_ok-piece.field-0 c.loop-piece.invariant.2 c.in-Some.ensures.steps c.in_ok-piece.was in (
      tt,
      tt,
      p.3,
      subst (Reached c.args.text.now) (sym p.2) (reached_on c.args.text.now c.loop-piece.piece-iterator.at c.in_ok-piece.field-0.1.token c.in_ok-piece.field-0.1.length c.loop-piece.invariant.3 p.1),
    )
