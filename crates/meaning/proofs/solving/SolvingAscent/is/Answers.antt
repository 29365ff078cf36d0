use Rattle.std.proofs.Common.{arith, rules, tests}
use Rattle.std.proofs.lemmas.Iterator.{YieldsList-from_slice, YieldsList-from_zip, YieldsList-from_take, cases_from_all}
use Rattle.std.proofs.lemmas.Iterator.Consumers.{YieldsList-at}
use Rattle.meaning.proofs.Alike.{AlikePair, alike_all}
use Rattle.meaning.proofs.solving.SolvingAscent.is.Goals as goal

pub returns : goal.returns
returns g c =
    let xs = c.args.self.now.found in
    let ys = c.args.other.now.found in
    alike_all c.count.result _ xs ys c.all.result c.count.ensures (omega (arith, c.count.ensures)) (omega (arith, c.count.ensures))
    (cases_from_all c.all.new.self _ _ AlikePair (λ p. AlikePair p → ⊥) c.all.ensures.ran
    (YieldsList-from_take {s = c.take.result} c.count.result (YieldsList-at c.take.ensures.source (YieldsList-from_zip {s = c.zip-found.result} (YieldsList-from_slice xs cc) (YieldsList-from_slice ys cc))) (cc))
    (λ x q k. search (rules, tests)) (λ x q k. search (rules, tests)))
