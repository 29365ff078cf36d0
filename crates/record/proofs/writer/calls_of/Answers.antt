use Rattle.std.proofs.Common.{rules}
use Rattle.run.specs.Tests.{table_run}
use Rattle.record.specs.Writing.{Entries, Ties, Settlings}
use Rattle.record.proofs.Fields.{stage_fields, record_joins}
use Rattle.record.proofs.writer.calls_of.Goals as goal

pub returns : goal.returns
returns c =
    let run = table_run c.args.table.now.events in
    record_joins run c.stage.result c.stage-2.result c.stage-3.result
    (stage_fields Entries run c.stage.result (search rules) _ c.stage.ensures (λ n e r h. search rules))
    (stage_fields Ties run c.stage-2.result (search rules) _ c.stage-2.ensures (λ n e r h. search rules))
    (stage_fields Settlings run c.stage-3.result (search rules) _ c.stage-3.ensures (λ n e r h. search rules))
