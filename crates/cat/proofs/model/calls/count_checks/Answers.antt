use Rattle.std.proofs.Common.{◌≡◌, count_by, ◌∙◌, rules}
use Rattle.cat.proofs.Tallying.{is_check, checks_counted}
use Rattle.cat.proofs.model.calls.count_checks.Goals as goal

pub returns : goal.returns
returns c = let e : c.count.result ≡ count_by is_check c.args.statements.now = search rules in e ∙ checks_counted c.args.statements.now
