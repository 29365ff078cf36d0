use Rattle.std.proofs.Common.{◌≡◌, ℕ, eqb, Some, None, Option, Decides, ap, rules}
use Rattle.std.specs.Option.{option_eq}
use Rattle.std.proofs.lemmas.Bool.{false≢true}
use Rattle.std.proofs.lemmas.Bool.Decides.{Decides-eqb, Decides-like}
use Rattle.given.proofs.Bonded.{bonded_shows, shows_as}
use Rattle.given.proofs.bond.reads_from.Goals as goal

source_decided : (o : Option ℕ) (a : ℕ) → Decides (option_eq eqb o (Some a)) (o ≡ Some a)
source_decided None a = (λ e. absurd (false≢true e), λ h. cc h)
source_decided (Some w) a = Decides-like (eqb w a) (ap Some) (λ h. cc h) (Decides-eqb w a)

pub returns : goal.returns
returns c =
    shows_as _ _ (bonded_shows _ _ (λ a e f. option_eq eqb f.source (Some a)) (λ a e f. f.source ≡ Some a) (λ a e f b h. search rules) (λ a e f. source_decided f.source a) _ c.pairs.ensures)
    (λ a b. (λ h. ((h.0, h.1, tt), h.2), λ h. (h.0.0, h.0.1, h.1)))
