use Rattle.finite.proofs.Lists.{placed, held}
use Rattle.finite.proofs.laws_of_places.Goals as goal

pub returns : goal.returns
returns g c = record { placed = placed; held = held }
