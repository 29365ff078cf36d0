use Rattle.std.proofs.Common.{◌<◌, length, Some, ap, sym, ◌∙◌, rules}
use Rattle.run.specs.Tests.{table_run}
use Rattle.bench.specs.Steps.{put, taken}
use Rattle.bench.proofs.Tables.{put_set}
use Rattle.bench.proofs.take.take.Goals as goal

pub returns-in-Enter : goal.returns-in-Enter
returns-in-Enter c =
    let lt : c.in-Enter.entry.number < length c.args.events.now.events = search rules in
    put_set _ _ _ lt ∙ ap (λ e. put (table_run c.args.events.now.events) c.in-Enter.entry.number (Some e)) c.event.ensures ∙ sym (ap (taken (table_run c.args.events.now.events)) c.in-Enter.is)
