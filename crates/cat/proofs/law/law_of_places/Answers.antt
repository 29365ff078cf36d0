use Rattle.cat.proofs.Rising.{places_rise, places_within, lowest_has_lowest_place}
use Rattle.cat.proofs.law.law_of_places.Goals as goal

pub returns : goal.returns
returns c = record { rise = places_rise; within = places_within; lowest = lowest_has_lowest_place }
