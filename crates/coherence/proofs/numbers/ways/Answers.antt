use Rattle.std.proofs.Common.{length, ap, ◌∙◌, rules}
use Rattle.coherence.specs.Perms.{factorial}
use Rattle.coherence.specs.Laying.{capped}
use Rattle.coherence.proofs.Masks.{mask_size}
use Rattle.coherence.proofs.Laying.{gathered}
use Rattle.coherence.proofs.numbers.ways.Goals as goal

pub returns-clause-value : goal.returns-clause-value
returns-clause-value c = c.factorial.ensures.value ∙ ap (λ n. capped (factorial n)) (mask_size c.free.result (search rules) ∙ ap length (gathered c.free.result _ c.free.ensures))
