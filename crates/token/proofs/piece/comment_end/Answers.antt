use Rattle.std.proofs.Common.{rules}
use Rattle.std.specs.Slice.Iter.{windows_rest, windows_size}
use Rattle.token.proofs.Scans.{windows_run, pairs_tested, end_is}
use Rattle.token.proofs.piece.comment_end.Goals as goal

pub returns : goal.returns
returns c =
    let r = c.position.ensures.runs in
    end_is c.args.text.now c.position.result r.0
    (windows_run windows_size windows_rest c.args.text.now c.windows.result r.0 r.1 c.windows.ensures.size c.windows.ensures.rest (c.windows.ensures.runs r.0 r.0.seen))
    (pairs_tested c.position.result r.0 r.2 (λ a b q k. search rules) (λ x b k. search rules))
