use Rattle.cat.proofs.Latest.{latest_binding}
use Rattle.cat.proofs.law.law_of_latest.Goals as goal

pub returns : goal.returns
returns c = latest_binding
