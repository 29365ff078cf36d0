use Rattle.relation.specs.Sets.{SameEvents}
use Rattle.relation.specs.Masks.{Member}
use Rattle.meaning.specs.Operators.{events_of}
use Rattle.meaning.proofs.Operated.{by_events}
use Rattle.meaning.proofs.operate.events_in.Goals as goal

pub returns-in-Events : goal.returns-in-Events
returns-in-Events c = by_events (λ m. SameEvents (Member c.args.value.mask) (events_of m)) c.args.value c.in-Events.is (λ n. (λ x. x, λ x. x))
