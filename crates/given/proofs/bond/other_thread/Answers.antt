use Rattle.std.proofs.Common.{◌≡◌, not, eqb, rules}
use Rattle.std.proofs.lemmas.Bool.Decides.{Decides-eqb, Decides-not}
use Rattle.given.proofs.Bonded.{between_shows}
use Rattle.given.proofs.bond.other_thread.Goals as goal

pub returns : goal.returns
returns c =
    between_shows _ _ (λ e f. not (eqb e.thread f.thread)) (λ e f. e.thread ≡ f.thread → ⊥) (λ a e f b h. search rules)
    (λ e f. Decides-not _ (Decides-eqb e.thread f.thread)) c.pairs.ensures
