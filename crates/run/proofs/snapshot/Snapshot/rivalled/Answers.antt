use Rattle.std.proofs.Common.{◌&&◌, rules}
use Rattle.run.specs.Tests.{is_write, same_place}
use Rattle.run.proofs.Searching.{searched}
use Rattle.run.proofs.snapshot.Snapshot.rivalled.Goals as goal

pub returns : goal.returns
returns c = searched _ _ (λ f. is_write f && (f.settled && same_place f c.args.event.now)) _ c.some_other.ensures (λ e b h. search rules)
