use Rattle.std.proofs.Common.{◌&&◌, rules}
use Rattle.run.specs.Tests.{table_run, is_initial, is_write, same_place, same_step, supplies}
use Rattle.run.proofs.Searching.{searched}
use Rattle.run.proofs.Links.{source_linked}
use Rattle.run.proofs.snapshot.Snapshot.some_linked.Goals as goal

pub returns-in-SameStep : goal.returns-in-SameStep
returns-in-SameStep c =
    let h = searched _ _ (λ f. same_step f c.args.event.now) _ c.some_other.ensures (λ e b h. search rules) in search rules

pub returns-in-Twin : goal.returns-in-Twin
returns-in-Twin c =
    let h = searched _ _ (λ f. is_initial f && same_place f c.args.event.now) _ c.some_other-in-Twin.ensures (λ e b h. search rules) in search rules

pub returns-in-Source : goal.returns-in-Source
returns-in-Source c =
    let h = source_linked (table_run c.args.self.now.events) c.args.event.now.source (supplies c.args.event.now) c.is_some_and.result (search rules) in search rules

pub returns-in-OtherWrite : goal.returns-in-OtherWrite
returns-in-OtherWrite c =
    let h = searched _ _ (λ f. is_write f && same_place f c.args.event.now) _ c.some_other-in-OtherWrite.ensures (λ e b h. search rules) in search rules

pub returns-in-Origin : goal.returns-in-Origin
returns-in-Origin c =
    let h = searched _ _ (λ f. is_initial f && same_place f c.args.event.now) _ c.some.ensures (λ e b h. search rules) in search rules
