use Rattle.std.proofs.Common.{◌≡◌, length, refl, arith, rules}
use Rattle.std.proofs.lemmas.List.Concat.{length-flat_map}
use Rattle.std.proofs.lemmas.List.Sums.{sum_by-append}
use Rattle.bench.specs.Benches.{bench_run}
use Rattle.record.specs.Writing.{call_bytes}
use Rattle.record.proofs.Written.{record_of, record_size, three_stages, wrote_all, table_reads_back}
use Rattle.record.proofs.writer.write.Goals as goal

pub returns-then-out-needed-clause-wrote : goal.returns-then-out-needed-clause-wrote
returns-then-out-needed-clause-wrote c =
    let run = bench_run c.args.bench.now in
    let calls = c.as_flattened-calls.result.now in
    let is = record_of c.events-table.result.events run c.calls_of-stages.result calls c.as_flattened-calls.ensures.value c.calls_of-stages.ensures c.events-table.ensures.same in
    let all = three_stages c.calls_of-stages.result (search rules) in
    (record_size run calls c.size_of_all-needed.result is (grind arith), omega arith, refl)

pub returns-then-out-needed-clause-round_trip : goal.returns-then-out-needed-clause-round_trip
returns-then-out-needed-clause-round_trip c =
    let events = c.events-table.result.events in
    let long : length events ≡ 32 = search rules in
    table_reads_back events _ long c.events-table.ensures.same c.events-table.ensures.kept

pub returns-clause-wrote : goal.returns-clause-wrote
returns-clause-wrote c =
    let run = bench_run c.args.bench.now in
    let calls = c.as_flattened-calls.result.now in
    let is = record_of c.events-table.result.events run c.calls_of-stages.result calls c.as_flattened-calls.ensures.value c.calls_of-stages.ensures c.events-table.ensures.same in
    let all = three_stages c.calls_of-stages.result (search rules) in
    wrote_all run _ c.args.out.now _ _ _ _ (grind arith) c.put_all-end.ensures c.paste.ensures

pub returns-clause-round_trip : goal.returns-clause-round_trip
returns-clause-round_trip c =
    let events = c.events-table.result.events in
    let long : length events ≡ 32 = search rules in
    table_reads_back events _ long c.events-table.ensures.same c.events-table.ensures.kept

pub put_all-end-requires : goal.put_all-end-requires
put_all-end-requires c =
    let all = three_stages c.calls_of-stages.result (search rules) in
    grind (arith, length-flat_map call_bytes, sum_by-append)

pub paste-requires : goal.paste-requires
paste-requires c =
    let all = three_stages c.calls_of-stages.result (search rules) in
    grind (arith, length-flat_map call_bytes, sum_by-append)
