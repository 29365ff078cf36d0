use Rattle.std.proofs.Common.{◌<◌, refl, subst, arith, rules}
use Rattle.run.specs.Tests.{table_run}
use Rattle.coherence.proofs.Told.{gives_order, gives_none, digits_fit, digits_small}
use Rattle.coherence.proofs.numbers.nth_order.Goals as goal

pub returns-then-split-gt0 : goal.returns-then-split-gt0
returns-then-split-gt0 c =
    gives_none (table_run c.args.events.now.events) c.args.number c.args.place.now.rows c.args.place.now.rows (subst (λ n. 0 < n) c.split.ensures.rest c.if-split-gt0.true) refl

pub lay_lines-requires : goal.lay_lines-requires
lay_lines-requires c =
    let small : c.args.number < 65536 = search rules in
    record {
      below = digits_fit (table_run c.args.events.now.events) c.args.number c.split.new.digits c.split.ensures.digits;
      small = digits_small (table_run c.args.events.now.events) c.args.number c.split.new.digits small c.split.ensures.digits;
    }

pub returns : goal.returns
returns c =
    gives_order (table_run c.args.events.now.events) c.args.number c.args.place.now.rows c.lay_lines.new.order.rows c.split.new.digits c.split.ensures.digits (omega (arith, c.split.ensures.rest, c.if-split-gt0.false)) c.lay_lines.ensures
