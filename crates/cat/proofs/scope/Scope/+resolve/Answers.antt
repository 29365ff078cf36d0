use Rattle.std.proofs.Common.{refl}
use Rattle.cat.specs.Placing.{tokens_of, bound_of}
use Rattle.cat.proofs.Resolved.{placed_inside, placed_tilde, placed_ended, placed_joined}
use Rattle.cat.proofs.scope.Scope.+resolve.Goals as goal

pub returns-in_ok-item-in-Inside : goal.returns-in_ok-item-in-Inside
returns-in_ok-item-in-Inside t c = placed_inside (tokens_of c.args.self.now) (bound_of c.args.self.now) c.args.at c.in-Inside.is c.deref.ensures c.in_ok-inside-in-Inside.ensures c.in_ok-item-in-Inside.ensures refl

pub returns-in_ok-item-in-Tilde : goal.returns-in_ok-item-in-Tilde
returns-in_ok-item-in-Tilde t c = placed_tilde (tokens_of c.args.self.now) (bound_of c.args.self.now) c.args.at c.in-Tilde.is c.deref-in-Tilde.ensures c.in_ok-inside-in-Tilde.ensures c.in_ok-item-in-Tilde.ensures refl

pub returns-in_ok-item-in-Ended : goal.returns-in_ok-item-in-Ended
returns-in_ok-item-in-Ended t c = placed_ended (tokens_of c.args.self.now) (bound_of c.args.self.now) c.args.at c.in-Ended.is c.deref-in-Ended.ensures c.in_ok-inside-in-Ended.ensures c.in_ok-item-in-Ended.ensures refl

pub returns-in_ok-item-in-Joined : goal.returns-in_ok-item-in-Joined
returns-in_ok-item-in-Joined t c =
    placed_joined (tokens_of c.args.self.now) (bound_of c.args.self.now) c.args.at c.in-Joined.is c.deref-in-Joined.ensures c.deref-in-Joined-2.ensures c.in_ok-first-in-Joined.ensures c.in_ok-second-in-Joined.ensures
    c.in_ok-item-in-Joined.ensures refl
