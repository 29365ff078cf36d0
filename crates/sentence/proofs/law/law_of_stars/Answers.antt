use Rattle.sentence.proofs.Stars.{same_sorts, star_rule}
use Rattle.sentence.proofs.law.law_of_stars.Goals as goal

pub returns : goal.returns
returns c = record { same = same_sorts; rule = star_rule }
