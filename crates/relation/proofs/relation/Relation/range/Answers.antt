use Rattle.std.proofs.Common.{◌≡◌, rules}
use mathlib.Core.Path.{subst⁻¹}
use Rattle.std.specs.List.{fold}
use Rattle.std.specs.Int.Bits.{bit_or}
use Rattle.relation.specs.Relations.{Range}
use Rattle.relation.specs.Masks.{Related, Marks}
use Rattle.relation.proofs.Gathered.{union_rows}
use Rattle.relation.proofs.relation.Relation.range.Goals as goal

pub returns : goal.returns
returns c =
    let e : c.fold.result ≡ fold bit_or 0 c.args.self.rows = search rules in
    subst⁻¹ (λ x. Marks x (Range (Related c.args.self.rows))) e (union_rows c.args.self.rows (search rules) (search rules))
