-- A record written stage by stage. Assumes nothing.
use Rattle.std.proofs.Common.{◌≡◌, ℕ, ◌+◌, ◌<◌, List, [], ◌∷◌, ◌++◌, length, take, drop, get_or, sum_by, None, Ok, Option, sym, refl, ap, ◌∙◌, subst, arith, length-append}
use Rattle.std.specs.List.{flat_map}
use Rattle.std.proofs.lemmas.List.{get_or_past}
use Rattle.std.proofs.lemmas.List.Concat.{length-flat_map}
use Rattle.bench.specs.declared.action.Action.{Action}
use Rattle.run.specs.declared.event.Event.{Event}
use Rattle.bench.specs.Keeps.{Orderly}
use Rattle.run.specs.Runs.{Run}
use Rattle.run.specs.Tests.{table_run}
use Rattle.record.specs.Format.{end}
use Rattle.record.specs.RoundTrip.{Confined, ReadsBack}
use Rattle.record.specs.Writing.{record_bytes, call_bytes, pasted, Placed, Wrote}
use Rattle.record.proofs.Fields.{fields_more}
use Rattle.record.proofs.Pastes.{placed_on, pasted_first}
use Rattle.record.proofs.RoundTrip.{round_trip}

-- the fields of the calls and the end are the record of the run that the table shows
pub record_of : (events : List (Option Event)) (run : Run) (stages : List (List (Option Action))) (calls : List (Option Action)) → calls ≡ flat_map (λ stage. stage) stages →
    flat_map call_bytes (flat_map (λ stage. stage) stages) ++ end ≡ record_bytes (table_run events) → table_run events ≡ run → flat_map call_bytes calls ++ end ≡ record_bytes run
record_of events run stages calls all is same = ap (λ l. flat_map call_bytes l ++ end) all ∙ is ∙ ap record_bytes same

-- so many bytes it has
pub record_size : (run : Run) (calls : List (Option Action)) (size : ℕ) → flat_map call_bytes calls ++ end ≡ record_bytes run → size ≡ sum_by (λ call. length (call_bytes call)) calls → size + 3 ≡ length (record_bytes run)
record_size run calls size is sum = omega (arith, length-flat_map call_bytes calls, length-append (flat_map call_bytes calls) end, ap length is, sum)

-- three stages, one behind another, are those at the places 0, 1 and 2: so it does not matter how a list of their calls is made
pub three_stages : (stages : List (List (Option Action))) → length stages ≡ 3 → flat_map (λ stage. stage) stages ≡ get_or stages 0 [] ++ (get_or stages 1 [] ++ (get_or stages 2 [] ++ []))
three_stages [] long = absurd (omega arith)
three_stages (a ∷ []) long = absurd (omega arith)
three_stages (a ∷ b ∷ []) long = absurd (omega arith)
three_stages (a ∷ b ∷ c ∷ []) long = refl
three_stages (a ∷ b ∷ c ∷ d ∷ more) long = absurd (omega arith)

-- one field more behind those of the first calls
pub placed_more : (before mid after : List ℕ) (calls : List (Option Action)) (i at next : ℕ) → i < length calls → Placed before 0 (flat_map call_bytes (take i calls)) at mid →
    Placed mid at (call_bytes (get_or calls i None)) next after → Placed before 0 (flat_map call_bytes (take (i + 1) calls)) next after
placed_more before mid after calls i at next within p q =
    rw (fields_more calls i within) (placed_on before 0 (flat_map call_bytes (take i calls)) at mid (call_bytes (get_or calls i None)) next after (omega arith) p q)

-- the fields of the calls and the end from the start on are the record
pub wrote_all : (run : Run) (fields before : List ℕ) (at : ℕ) (called : List ℕ) (next : ℕ) (after : List ℕ) → fields ++ end ≡ record_bytes run →
    Placed before 0 fields at called → Placed called at end next after → Wrote run before after (Ok next)
wrote_all run fields before at called next after is p q =
    let all = placed_on before 0 fields at called end next after (omega arith) p q in
    let long : next ≡ length (record_bytes run) = omega (arith, all.behind, ap length is) in
    (long, all.stands ∙ ap (pasted before 0) is ∙ pasted_first before (record_bytes run) ∙ ap (λ n. record_bytes run ++ drop n before) (sym long))

-- a table of 32 answers holds nothing above 31
table_confined : (events : List (Option Event)) → length events ≡ 32 → Confined (table_run events)
table_confined events long n above = get_or_past events n None (omega arith)

-- so the run that it holds is read back where it is orderly
pub table_reads_back : (events : List (Option Event)) (run : Run) → length events ≡ 32 → table_run events ≡ run → Orderly run → ReadsBack run
table_reads_back events run long same orderly = round_trip run orderly (subst Confined same (table_confined events long))
