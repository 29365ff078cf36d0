use Rattle.finite.proofs.Counts.{count_nothing, count_no_more, count_something}
use Rattle.finite.proofs.laws_of_nothing.Goals as goal

pub returns : goal.returns
returns g c = record {
  nothing = λ p. count_nothing;
  none = λ p. count_no_more;
  something = λ p n. count_something;
}
