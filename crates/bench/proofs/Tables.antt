-- A table of 32 answers with another answer in it, as a run. Assumes nothing.
use Rattle.std.proofs.Common.{◌≡◌, ℕ, ◌<◌, List, length, slice_set, None, Option, ◌∙◌, sym, ap, ⊎_elim}
use Rattle.std.proofs.lemmas.Bool.{cases_eq}
use Rattle.std.proofs.lemmas.List.{get_or-set_same, get_or-set_other}
use mathlib.Core.Path.{fun_ext}
use Rattle.run.specs.declared.event.Event.{Event}
use Rattle.run.specs.Tests.{table_run}
use Rattle.bench.specs.Steps.{put}
use Rattle.bench.proofs.Stays.{put_here, put_there}

-- it holds the run with that answer
pub put_set : (events : List (Option Event)) (n : ℕ) (o : Option Event) → n < length events → table_run (slice_set events n o) ≡ put (table_run events) n o
put_set events n o lt = fun_ext (λ m. ⊎_elim
    (λ same. ap (table_run (slice_set events n o)) same ∙ get_or-set_same events n o None lt ∙ sym (ap (put (table_run events) n o) same ∙ put_here (table_run events) n o))
    (λ other. get_or-set_other events n m o None other ∙ sym (put_there (table_run events) n o m other))
    (cases_eq m n))
