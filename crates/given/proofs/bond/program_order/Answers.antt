use Rattle.std.proofs.Common.{◌≡◌, ◌<◌, ◌&&◌, eqb, ltb, rules}
use Rattle.std.proofs.lemmas.Bool.Decides.{Decides-eqb, Decides-ltb, Decides-like, Decides-and}
use Rattle.run.specs.Events.{Threaded}
use Rattle.run.specs.Tests.{is_threaded}
use Rattle.run.proofs.Rules.{threaded_decided}
use Rattle.given.proofs.Bonded.{between_shows}
use Rattle.given.proofs.bond.program_order.Goals as goal

pub returns : goal.returns
returns c =
    between_shows _ _ (λ e f. is_threaded e && (eqb e.thread f.thread && ltb e.step f.step)) (λ e f. Threaded e × (e.thread ≡ f.thread) × (e.step < f.step)) (λ a e f b h. search rules)
    (λ e f. Decides-like _ (λ h. (h.0, h.1.0, h.1.1)) (λ h. (h.0, (h.1, h.2))) (Decides-and _ _ (threaded_decided e) (Decides-and _ _ (Decides-eqb e.thread f.thread) (Decides-ltb e.step f.step)))) c.pairs.ensures
