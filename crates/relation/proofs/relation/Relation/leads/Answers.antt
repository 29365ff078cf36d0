use Rattle.std.proofs.Common.{subst}
use Rattle.relation.specs.Relations.{Path}
use Rattle.relation.specs.Masks.{Related, Marks}
use Rattle.relation.specs.Reaching.{leads_single, leads_nowhere}
use Rattle.relation.proofs.relation.Relation.leads.Goals as goal

pub returns-then-event-lt32 : goal.returns-then-event-lt32
returns-then-event-lt32 c =
    subst (λ a. Marks c.reach.result (Path (Related c.args.self.rows) a)) c.from.ensures (leads_single _ _ c.single.ensures c.reach.ensures)

pub returns-else-event-lt32 : goal.returns-else-event-lt32
returns-else-event-lt32 c = leads_nowhere _ _ c.if-event-lt32.false
