-- Bytes are the fields of calls and a rest in which none begins, and calls are accepted or one of them is refused. Assumes nothing.
use Rattle.std.proofs.Common.{◌≡◌, ℕ, zero, suc, ◌+◌, ◌≤◌, ◌⊎◌, List, [], ◌∷◌, ◌++◌, length, drop, Some, None, Err, Option, sym, refl, ap, ◌∙◌, inl, inr, append_assoc, arith, length-drop}
use Rattle.std.proofs.lemmas.List.{get_or-drop}
use Rattle.bench.specs.declared.action.Action.{Action}
use Rattle.bench.specs.declared.fault.BenchFault.{BenchFault}
use Rattle.bench.specs.Refusals.{Answers}
use Rattle.run.specs.Runs.{Run}
use Rattle.bench.specs.Steps.{taken, led}
use Rattle.bench.specs.Tests.{refusal, answer}
use Rattle.bench.proofs.Refused.{answered}
use Rattle.record.specs.Format.{Bytes, spell, spelled}
use Rattle.record.specs.Reading.{call_at}
use Rattle.record.specs.Readings.{Accepted}
use Rattle.record.proofs.Found.{spell_long, Begins, begins}
use Rattle.record.proofs.Walks.{none_left}

-- what is left of bytes is bytes
pub bytes_drop : (n : ℕ) (bytes : List ℕ) → Bytes bytes → Bytes (drop n bytes)
bytes_drop n bytes h = λ k. rw (get_or-drop n bytes k 0) (h (n + k))

-- the fields of calls, and a rest in which none begins
pub record Split (bytes : List ℕ) : Type 0 where
  pub calls : List Action
  pub rest : List ℕ
  pub splits : bytes ≡ spelled calls ++ rest
  pub none : call_at rest ≡ None

-- bytes split, with a turn for each of them
pub split : (turns : ℕ) (bytes : List ℕ) → Bytes bytes → length bytes ≤ turns → Split bytes
split zero bytes h l = record { calls = []; rest = bytes; splits = refl; none = none_left bytes l }
split (suc turns) bytes h l = go (split turns) (call_at bytes) refl (begins bytes h)
  where
    go : ((more : List ℕ) → Bytes more → length more ≤ turns → Split more) → (o : Option Action) → call_at bytes ≡ o → Begins bytes o → Split bytes
    go on None e b = record { calls = []; rest = bytes; splits = refl; none = e }
    go on (Some a) e b =
        let n = length (spell a) in
        let s = on (drop n bytes) (bytes_drop n bytes h) (omega (arith, length-drop n bytes, spell_long a)) in
        record { calls = a ∷ s.calls; rest = s.rest; splits = b ∙ ap (λ l. spell a ++ l) s.splits ∙ sym (append_assoc (spell a) (spelled s.calls) s.rest); none = s.none }

-- the first call that is refused, from a run on
pub record Stops (run : Run) (calls : List Action) : Type 0 where
  pub before : List Action
  pub call : Action
  pub after : List Action
  pub fault : BenchFault
  pub splits : calls ≡ before ++ (call ∷ after)
  pub accepted : Accepted run before
  pub refused : Answers (led run before) call (Err fault)

-- no call is refused, or one is the first
pub tried : (run : Run) (calls : List Action) → Accepted run calls ⊎ Stops run calls
tried run [] = inl tt
tried run (a ∷ more) = go (tried (taken run a) more) (refusal run a) (answered run a)
  where
    go : Accepted (taken run a) more ⊎ Stops (taken run a) more → (o : Option BenchFault) → Answers run a (answer o) → Accepted run (a ∷ more) ⊎ Stops run (a ∷ more)
    go (inl h) None k = inl (k, h)
    go (inr s) None k =
        inr (record {
          before = a ∷ s.before;
          call = s.call;
          after = s.after;
          fault = s.fault;
          splits = ap (λ l. a ∷ l) s.splits;
          accepted = (k, s.accepted);
          refused = s.refused;
        })
    go h (Some f) k = inr (record { before = []; call = a; after = more; fault = f; splits = refl; accepted = tt; refused = k })
