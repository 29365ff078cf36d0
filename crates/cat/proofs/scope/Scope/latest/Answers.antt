use Rattle.std.proofs.Common.{◌≡◌, Some, None, sym, refl, rules}
use Rattle.cat.specs.Scopes.{latest, names_of}
use Rattle.cat.specs.Placing.{tokens_of}
use Rattle.cat.proofs.Latest.{latest_at, latest_nowhere}
use Rattle.cat.proofs.scope.Scope.latest.Goals as goal

pub returns : goal.returns
returns c =
    let found = tokens_of c.args.self.now in
    let n = c.args.name.now in
    let names = c.args.names.now in
    (elim c.rposition.result as (λ r. c.rposition.result ≡ r → r ≡ latest n (names_of found names)) [
      | None ↦ λ e. sym (latest_nowhere found n names (λ k lt. search rules))
      | Some i ↦ λ e. sym (latest_at found n names i (search rules) (search rules) (λ k after lt. search rules))
    ]) refl
