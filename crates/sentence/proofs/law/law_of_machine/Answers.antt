use Rattle.sentence.proofs.Refusals.{machine_told, machine_tells, machine_begins}
use Rattle.sentence.proofs.law.law_of_machine.Goals as goal

pub returns : goal.returns
returns c = record { told = machine_told; tells = machine_tells; begins = machine_begins }
