use Rattle.run.specs.Tests.{table_run}
use Rattle.coherence.specs.Digits.{ways}
use Rattle.coherence.proofs.Told.{Splitting}
use Rattle.coherence.proofs.numbers.split.Given as goal

abbrev pub invariant-loop-location : goal.invariant-loop-location
invariant-loop-location l = Splitting (ways (table_run l.events.events)) l.number l.digits l.rest l.location
