use Rattle.std.proofs.Common.{arith, rules, refl}
use Rattle.relation.proofs.Rows.{may_call, gave}
use Rattle.relation.proofs.relation.Relation.by_rows.Goals as goal

pub from_fn-rows-requires : goal.from_fn-rows-requires
from_fn-rows-requires g c = (omega arith, may_call _ (λ f f' a r k. g.met.F.Fn.1.step_stays f (a, tt) r f' (record { met = k.met })) _ c.requires)

pub returns : goal.returns
returns g c =
    record {
      long = c.from_fn-rows.ensures.items.long;
      fits = search rules;
      each = λ a l. let k = gave _ (λ f f' b r k. g.met.F.Fn.1.step_stays f (b, tt) r f' (record { met = k.met })) c.args.row c.args.row c.from_fn-rows.result 0 32 refl c.from_fn-rows.ensures.items.each a (omega arith) l in (g.met.F.FnMut.1.post_iff c.args.row (a, tt) _).1 (k.0, record { met = k.1.met });
    }
