use Rattle.std.proofs.Common.{subst}
use mathlib.Core.Path.{subst⁻¹}
use Rattle.relation.specs.Relations.{SamePairs}
use Rattle.relation.specs.Masks.{Related}
use Rattle.meaning.specs.Operators.{pairs_of}
use Rattle.meaning.proofs.Operated.{by_pairs}
use Rattle.meaning.proofs.operate.pairs_in.Goals as goal

pub returns-in-Pairs : goal.returns-in-Pairs
returns-in-Pairs c =
    by_pairs (λ m. SamePairs (Related c.relation.result.rows) (pairs_of m)) c.args.value c.in-Pairs.is
    (λ a b. (subst (λ rows. Related rows a b) c.relation.ensures, subst⁻¹ (λ rows. Related rows a b) c.relation.ensures))
