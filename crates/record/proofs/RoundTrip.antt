-- What is written is read back. Assumes nothing.
use Rattle.std.proofs.Common.{sym, refl, subst₂, arith}
use Rattle.run.specs.Runs.{Run, nothing}
use Rattle.bench.specs.Keeps.{Orderly}
use Rattle.record.specs.RoundTrip.{Confined, RoundTrip}
use Rattle.record.specs.Writing.{Stage, Entries, Ties, Settlings, calls_below, written}
use Rattle.record.proofs.Short.{record_short}
use Rattle.record.proofs.Leads.{Leads, leads_on}
use Rattle.record.proofs.Halfway.{begun, done, halfway_none, halfway_all}
use Rattle.record.proofs.Stages.{stage_leads}

-- a whole stage leads from what stands before it to what stands after
whole_stage : (run : Run) → Orderly run → Confined run → (stage : Stage) → Leads (λ k. begun stage (run k)) (calls_below stage run 32) (λ k. done stage (run k))
whole_stage run orderly confined stage =
    subst₂ (λ from to. Leads from (calls_below stage run 32) to) (halfway_none stage run) (halfway_all stage run confined) (stage_leads run orderly stage 32 (omega arith))

-- the three stages lead from nothing to the run
written_leads : (run : Run) → Orderly run → Confined run → Leads nothing (written run) run
written_leads run orderly confined =
    let stage = whole_stage run orderly confined in
    leads_on _ _ _ (calls_below Entries run 32) _ (stage Entries) (leads_on _ _ _ (calls_below Ties run 32) _ (stage Ties) (stage Settlings))

-- a written record is read back as the run
pub round_trip : RoundTrip
round_trip run orderly confined =
    let h = written_leads run orderly confined in
    (record_short run, record { calls = written run; spells = refl; accepted = h.accepted; leads = sym h.leads })
