use Rattle.sentence.proofs.Refusals.{text_or_refused, not_both, one_place}
use Rattle.sentence.proofs.law.law_of_refusal.Goals as goal

pub returns : goal.returns
returns c = record { either = text_or_refused; apart = not_both; once = one_place }
