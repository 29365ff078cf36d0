use Rattle.std.proofs.Common.{◌&&◌, rules}
use Rattle.std.proofs.lemmas.Bool.Decides.{Decides-like, Decides-and}
use Rattle.run.specs.Events.{Memory, SamePlace}
use Rattle.run.specs.Tests.{is_memory, same_place}
use Rattle.run.proofs.Rules.{memory_decided, place_decided}
use Rattle.given.proofs.Bonded.{between_shows}
use Rattle.given.proofs.bond.same_location.Goals as goal

pub returns : goal.returns
returns c =
    between_shows _ _ (λ e f. is_memory e && (is_memory f && same_place e f)) (λ e f. Memory e × Memory f × SamePlace e f) (λ a e f b h. search rules)
    (λ e f. Decides-like _ (λ h. (h.0, h.1.0, h.1.1)) (λ h. (h.0, (h.1, h.2))) (Decides-and _ _ (memory_decided e) (Decides-and _ _ (memory_decided f) (place_decided e f)))) c.pairs.ensures
