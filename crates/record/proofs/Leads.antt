-- Calls that are accepted one after another, and the run that they lead to. Assumes nothing.
use Rattle.std.proofs.Common.{◌≡◌, List, [], ◌∷◌, ◌++◌, Some, None, Option, sym, subst}
use Rattle.bench.specs.declared.action.Action.{Action}
use Rattle.run.specs.Runs.{Run}
use Rattle.bench.specs.Steps.{taken, led}
use Rattle.bench.proofs.Stays.{Open}
use Rattle.bench.proofs.Refused.{open_answers}
use Rattle.record.specs.Readings.{Accepted}
use Rattle.record.specs.Writing.{also}

-- the calls are accepted, and lead from one run to another
pub record Leads (from : Run) (calls : List Action) (to : Run) : Type 0 where
  pub accepted : Accepted from calls
  pub leads : led from calls ≡ to

-- some calls, then others
pub leads_on : (from mid to : Run) (calls more : List Action) → Leads from calls mid → Leads mid more to → Leads from (calls ++ more) to
leads_on from mid to [] more h k = subst (λ run. Leads run more to) (sym h.leads) k
leads_on from mid to (a ∷ calls) more h k =
    let rest = leads_on (taken from a) mid to calls more (record { accepted = h.accepted.1; leads = h.leads }) k in
    record { accepted = (h.accepted.0, rest.accepted); leads = rest.leads }

-- at most one call leads from one run to another
abbrev pub Makes : Run → Option Action → Run → Type 0
Makes from None to = from ≡ to
Makes from (Some a) to = Open from a × (taken from a ≡ to)

-- some calls, then one more, if there is one
pub leads_also : (from mid to : Run) (calls : List Action) (c : Option Action) → Leads from calls mid → Makes mid c to → Leads from (also calls c) to
leads_also from mid to calls None h k = subst (λ run. Leads from calls run) k h
leads_also from mid to calls (Some a) h k = leads_on from mid to calls (a ∷ []) h (record { accepted = (open_answers mid a k.0, tt); leads = k.1 })
