use Rattle.finite.proofs.Counts.{count_unique, count_fewer, count_same, count_carried}
use Rattle.finite.proofs.laws_of_counting.Goals as goal

pub returns : goal.returns
returns g c = record {
  unique = λ p m n. count_unique;
  fewer = λ p q m n. count_fewer;
  same = λ p q n. count_same;
  carried = λ p q f n. count_carried f;
}
