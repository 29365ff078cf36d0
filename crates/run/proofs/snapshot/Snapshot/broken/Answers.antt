use Rattle.std.proofs.Common.{◌&&◌, rules}
use Rattle.run.specs.Tests.{is_initial, is_write, same_place, same_step}
use Rattle.run.proofs.Searching.{searched}
use Rattle.run.proofs.snapshot.Snapshot.broken.Goals as goal

pub returns-then-is_threaded : goal.returns-then-is_threaded
returns-then-is_threaded c =
    let h = searched _ _ (λ f. same_step f c.args.event.now) _ c.some_other.ensures (λ e b h. search rules) in search rules

pub returns-then-is_initial : goal.returns-then-is_initial
returns-then-is_initial c =
    let h = searched _ _ (λ f. is_initial f && same_place f c.args.event.now) _ c.some_other-then-is_initial.ensures (λ e b h. search rules) in search rules

pub returns-then-is_initial-2 : goal.returns-then-is_initial-2
returns-then-is_initial-2 c =
    let h = searched _ _ (λ f. is_write f && same_place f c.args.event.now) _ c.some_other-then-is_initial-2.ensures (λ e b h. search rules) in search rules

pub returns-then-is_memory : goal.returns-then-is_memory
returns-then-is_memory c =
    let h = searched _ _ (λ f. is_initial f && same_place f c.args.event.now) _ c.some.ensures (λ e b h. search rules) in search rules
