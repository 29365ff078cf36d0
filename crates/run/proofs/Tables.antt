-- What a table of 32 answers holds, as a run. Assumes nothing.
use Rattle.std.proofs.Common.{◌≡◌, ℕ, zero, suc, get_or, replicate, None, Option, refl}
use mathlib.Core.Path.{fun_ext}
use Rattle.run.specs.declared.event.Event.{Event}
use Rattle.run.specs.Runs.{nothing}
use Rattle.run.specs.Tests.{table_run}

-- a table of nothings holds no event
pub holds_nothing : (k : ℕ) → table_run (replicate k None) ≡ nothing
holds_nothing k = fun_ext (go k)
  where
    go : (k n : ℕ) → get_or {A = Option Event} (replicate k None) n None ≡ None
    go zero n = refl
    go (suc k) zero = refl
    go (suc k) (suc n) = go k n
