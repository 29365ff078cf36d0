-- The run that a bench holds. Assumes nothing.
use Rattle.bench.specs.declared.bench.Bench.{Bench}
use Rattle.run.specs.Runs.{Run}
use Rattle.run.specs.Tests.{table_run}

-- the standing run of a bench
abbrev pub bench_run : Bench → Run
bench_run b = table_run b.table.events
