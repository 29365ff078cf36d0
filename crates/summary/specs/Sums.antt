-- What a record holds, in numbers and as text. Assumes nothing.
use Rattle.std.specs.Prelude.{◌≡◌, ℕ, Bool, true, ◌⊎◌, List, ◌++◌, is_some, Some, None, codes, decimal, Option}
use Rattle.finite.specs.Counts.{Counts}
use Rattle.refusal.specs.Lines.{refusal_text}
use Rattle.run.specs.declared.event.Event.{Event}
use Rattle.run.specs.declared.rule.Breach.{Breach}
use Rattle.run.specs.Numbers.{rule_number}
use Rattle.run.specs.Rules.{Examined}
use Rattle.run.specs.Runs.{Run, Stands}
use Rattle.record.specs.declared.fault.RecordFault.{RecordFault}
use Rattle.record.specs.Reading.{record_refusal}
use Rattle.record.specs.Readings.{Holds, Faulty}
use Rattle.summary.specs.declared.Summary.{Summary}

-- the marks of an event: every event stands, a tied one has a source, a settled one is settled
abbrev pub any_mark : Event → Bool
any_mark e = true

abbrev pub tie_mark : Event → Bool
tie_mark e = is_some e.source

abbrev pub settled_mark : Event → Bool
settled_mark e = e.settled

-- the numbers at which an event with the mark stands
abbrev pub AtMark : (Event → Bool) → Run → ℕ → Type 0
AtMark mark run n = (e : Event) × Stands run n e × (mark e ≡ true)

-- the numbers of a summary are those of the run
pub record Sums (run : Run) (s : Summary) : Type 0 where
  -- how many events, ties and settlings the run has
  pub events : Counts (AtMark any_mark run) s.events
  pub ties : Counts (AtMark tie_mark run) s.ties
  pub settled : Counts (AtMark settled_mark run) s.settled
  -- whether it is sound, or the first rule broken with the lowest event at fault
  pub sound : Examined run s.breach

-- the summary of a record's bytes: of the run that they hold
abbrev pub Summed : List ℕ → Summary → Type 0
Summed bytes s = (run : Run) × Holds bytes run × Sums run s

-- the line on a breach: the rule's number and the event's
abbrev pub breach_text : ℕ → ℕ → List ℕ
breach_text rule event = codes "UNSOUND RULE " ++ (decimal rule ++ (codes " EVENT " ++ decimal event))

-- the line on soundness
abbrev pub verdict_text : Option Breach → List ℕ
verdict_text None = codes "SOUND"
verdict_text (Some b) = breach_text (rule_number b.rule) b.event

-- the two lines of a summary
abbrev pub summary_text : Summary → List ℕ
summary_text s =
    codes "EVENTS " ++ (decimal s.events ++ (codes " TIES " ++ (decimal s.ties ++ (codes " SETTLED " ++ (decimal s.settled ++ (codes "\n" ++ verdict_text s.breach))))))

-- what the program says of a record's bytes: the summary, or the refusal
abbrev pub Told : List ℕ → List ℕ → Type 0
Told bytes text = ((s : Summary) × Summed bytes s × (text ≡ summary_text s)) ⊎ ((f : RecordFault) × Faulty bytes f × (text ≡ refusal_text (record_refusal f)))
