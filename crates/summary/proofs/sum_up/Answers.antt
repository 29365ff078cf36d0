use Rattle.std.proofs.Common.{rules}
use Rattle.run.proofs.Same.{examined_shown}
use Rattle.summary.proofs.Marks.{counted_shown}
use Rattle.summary.specs.Sums.{any_mark, tie_mark, settled_mark}
use Rattle.summary.proofs.sum_up.Goals as goal

pub returns : goal.returns
returns c =
    let shows = c.of-events.ensures in (
      _,
      c.in_ok-record.ensures.reads.1,
      record {
        events = counted_shown any_mark _ _ _ shows (c.count.ensures any_mark (λ e b k. search rules));
        ties = counted_shown tie_mark _ _ _ shows (c.count-2.ensures tie_mark (λ e b k. search rules));
        settled = counted_shown settled_mark _ _ _ shows (c.count-3.ensures settled_mark (λ e b k. search rules));
        sound = examined_shown _ _ _ shows c.examine.ensures;
      },
    )
