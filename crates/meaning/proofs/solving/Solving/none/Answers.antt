use Rattle.relation.specs.Relations.{Never}
use Rattle.relation.specs.Masks.{Shows}
use Rattle.meaning.proofs.Placed.{table_all}
use Rattle.meaning.proofs.solving.Solving.none.Goals as goal

pub returns-clause-nothing : goal.returns-clause-nothing
returns-clause-nothing g c = table_all (λ rows. Shows rows Never) 64 c.none-none.result c.none-none.ensures
