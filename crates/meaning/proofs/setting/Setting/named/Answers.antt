use mathlib.Core.Path.{subst⁻¹}
use Rattle.std.proofs.Common.{refl, rules, Some, None, ◌≡◌, ◌<◌, ◌≤◌, ◌-◌, ◌++◌, map, length, slice_index_or}
use Rattle.relation.specs.declared.relation.Relation.{Relation}
use Rattle.relation.specs.Relations.{Never}
use Rattle.relation.specs.Masks.{Shows}
use Rattle.relation.specs.Values.{Means, of_pairs}
use Rattle.meaning.specs.Tables.{value_meaning, relation_meaning}
use Rattle.meaning.proofs.Evaluated.{known_at, behind_means}
use Rattle.meaning.proofs.setting.Setting.named.Goals as goal

pub returns : goal.returns
returns c =
    let vs = c.args.self.now.known.now in
    let rs = c.args.found.now in
    let v = c.unwrap_or_else.result in
    let i = c.args.number in
    (elim c.get.result as (λ o. c.get.result ≡ o → Means v (slice_index_or (map value_meaning vs ++ map relation_meaning rs) i (of_pairs Never))) [
      | None ↦ λ e. let past : length vs ≤ i = search rules in
          let n : c.copied.result ≡ None = search rules in
          let h : (d : Relation) × Shows d.rows Never × Means v (relation_meaning (slice_index_or rs (i - length vs) d)) = search rules in
          behind_means v vs rs i h.0 past h.1 h.2
      | Some w ↦ λ e. let known : i < length vs = search rules in
          let same : v ≡ slice_index_or vs i v = search rules in
          subst⁻¹ (λ u. Means u (slice_index_or (map value_meaning vs ++ map relation_meaning rs) i (of_pairs Never))) same (known_at vs (map relation_meaning rs) i v known)
    ]) refl
