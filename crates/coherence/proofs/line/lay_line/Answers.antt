use Rattle.std.proofs.Common.{◌<◌, length, sym, ap, subst}
use Rattle.run.specs.Tests.{table_run}
use Rattle.coherence.specs.Perms.{factorial}
use Rattle.coherence.proofs.Perms.{factorial_pos}
use Rattle.coherence.proofs.Laying.{gathered, line_laid}
use Rattle.coherence.proofs.line.lay_line.Goals as goal

pub lay-after_first-requires-clause-below : goal.lay-after_first-requires-clause-below
lay-after_first-requires-clause-below c = factorial_pos _

pub lay-after_free-requires-clause-below : goal.lay-after_free-requires-clause-below
lay-after_free-requires-clause-below c = subst (λ n. c.args.digit < factorial n) (ap length (sym (gathered c.free-free.result _ c.free-free.ensures))) c.requires.below

pub lay-requires-clause-below : goal.lay-requires-clause-below
lay-requires-clause-below c = factorial_pos _

pub returns : goal.returns
returns c =
    line_laid (table_run c.args.events.now.events) c.args.location c.args.digit c.args.order.now.rows c.lay-after_first.new.order.rows c.lay-after_free.new.order.rows c.lay.new.order.rows
    c.first-first.result c.free-free.result c.last-last.result c.lay-after_first.result c.lay-after_free.result
    c.first-first.ensures c.free-free.ensures c.last-last.ensures
    c.lay-after_first.ensures.rows c.lay-after_first.ensures.rest c.lay-after_free.ensures.rows c.lay-after_free.ensures.rest c.lay.ensures.rows
