use Rattle.cat.specs.Scopes.{given_as}
use Rattle.cat.proofs.scope.given_as.Goals as goal

pub returns : goal.returns
unfolding given_as
returns c = c.beside.ensures
