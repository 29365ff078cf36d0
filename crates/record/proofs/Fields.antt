-- The fields of a stage, number by number. Assumes nothing.
use Rattle.std.proofs.Common.{◌≡◌, ℕ, zero, suc, ◌+◌, ◌<◌, ◌≤◌, ◌⊎◌, List, [], ◌∷◌, ◌++◌, length, take, get_or, set, replicate, Some, None, Option, sym, refl, ap, ◌∙◌, inl, inr, ⊎_elim, append_assoc, append-nil, add-one, arith, get_or-set_same, get_or-set_other}
use Rattle.std.proofs.Math.ListN.{length-set}
use Rattle.std.specs.List.{flat_map}
use Rattle.std.proofs.lemmas.Bool.{cases_eq, cases_lt}
use Rattle.std.proofs.lemmas.List.{take_all, take_more, get_or-replicate, get_or_past, length-replicate}
use Rattle.std.proofs.lemmas.List.Concat.{flat_map-append}
use Rattle.bench.specs.declared.action.Action.{Action}
use Rattle.run.specs.declared.event.Event.{Event}
use Rattle.run.specs.Runs.{Run}
use Rattle.record.specs.Format.{spell, spelled, end}
use Rattle.record.specs.Writing.{Stage, Entries, Ties, Settlings, call_of, also, calls_below, record_bytes, call_bytes, Made, MadeOf, stage_bytes}

-- the fields of calls and more calls
pub spelled_join : (calls more : List Action) → spelled (calls ++ more) ≡ spelled calls ++ spelled more
spelled_join [] more = refl
spelled_join (a ∷ calls) more = ap (λ b. spell a ++ b) (spelled_join calls more) ∙ sym (append_assoc (spell a) (spelled calls) (spelled more))

-- one more call adds its field
spelled_also : (calls : List Action) (c : Option Action) → spelled (also calls c) ≡ spelled calls ++ call_bytes c
spelled_also calls None = sym (append-nil (spelled calls))
spelled_also calls (Some a) = spelled_join calls (a ∷ []) ∙ ap (λ b. spelled calls ++ b) (append-nil (spell a))

-- below 0 there is no field
stage_none : (stage : Stage) (run : Run) → stage_bytes stage run 0 ≡ []
unfolding calls_below
stage_none stage run = refl

-- one number more adds the field of its call
stage_more : (stage : Stage) (run : Run) (n : ℕ) → stage_bytes stage run (n + 1) ≡ stage_bytes stage run n ++ call_bytes (call_of stage n (run n))
unfolding calls_below
stage_more stage run n = rw add-one (spelled_also (calls_below stage run n) (call_of stage n (run n)))

-- the same of calls in a list
pub fields_more : (calls : List (Option Action)) (i : ℕ) → i < length calls → flat_map call_bytes (take (i + 1) calls) ≡ flat_map call_bytes (take i calls) ++ call_bytes (get_or calls i None)
fields_more calls i h =
    let call = get_or calls i None in
    ap (flat_map call_bytes) (take_more calls i None h) ∙ flat_map-append call_bytes (take i calls) (call ∷ [])
    ∙ ap (λ b. flat_map call_bytes (take i calls) ++ b) (append-nil (call_bytes call))

-- the calls of a stage below a number, where the others are still to be made
pub record Filling (gives : ℕ → Event → Option Action → Type 0) (run : Run) (n : ℕ) (calls : List (Option Action)) : Type 0 where
  pub long : length calls ≡ 32
  pub made : (k : ℕ) → k < n → Made gives k (run k) (get_or calls k None)
  pub empty : (k : ℕ) → n ≤ k → get_or calls k None ≡ None

-- at first none is made
none_there : (n k : ℕ) → get_or {A = Option Action} (replicate n None) k None ≡ None
none_there n k =
    ⊎_elim (λ l. get_or-replicate n k None None l) (λ l. get_or_past (replicate n None) k None (omega (arith, length-replicate {A = Option Action} n None))) (cases_lt k n)

pub filling_start : (gives : ℕ → Event → Option Action → Type 0) (run : Run) → Filling gives run 0 (replicate 32 None)
filling_start gives run = record { long = refl; made = λ k l. absurd (omega arith); empty = λ k l. none_there 32 k }

module _ (gives : ℕ → Event → Option Action → Type 0) (run : Run) (n : ℕ) (calls : List (Option Action)) (f : Filling gives run n calls) where
  -- a number with no event makes no call
  pub filling_none : ((e : Event) → run n ≡ Some e → ⊥) → Filling gives run (n + 1) calls
  filling_none never =
      record {
        long = f.long;
        made = λ k l. go k (cases_eq k n) l;
        empty = λ k l. f.empty k (omega arith);
      }
    where
      nothing : (o : Option Event) → ((e : Event) → o ≡ Some e → ⊥) → o ≡ None
      nothing None h = refl
      nothing (Some e) h = absurd (h e refl)

      go : (k : ℕ) → (k ≡ n) ⊎ (k ≡ n → ⊥) → k < n + 1 → Made gives k (run k) (get_or calls k None)
      go k (inl e) l = rw (e, nothing (run n) never) (f.empty n (omega arith))
      go k (inr ne) l = f.made k (omega arith)

  -- one with an event makes the call that is given for it
  pub filling_some : (e : Event) (call : Option Action) → n < 32 → run n ≡ Some e → gives n e call → Filling gives run (n + 1) (set calls n call)
  filling_some e call below is h =
      record {
        long = simp length-set f.long;
        made = λ k l. go k (cases_eq k n) l;
        empty = λ k l. get_or-set_other calls n k call None (λ e. omega arith) ∙ f.empty k (omega arith);
      }
    where
      go : (k : ℕ) → (k ≡ n) ⊎ (k ≡ n → ⊥) → k < n + 1 → Made gives k (run k) (get_or (set calls n call) k None)
      go k (inl e) l = rw (e, is, get_or-set_same calls n call None (omega (arith, f.long))) h
      go k (inr ne) l = rw (get_or-set_other calls n k call None ne) (f.made k (omega arith))

module _ (stage : Stage) (run : Run) (calls : List (Option Action)) (long : length calls ≡ 32) where
  -- where each number has the call of the stage, the fields are those of the stage
  fields_below : ((n : ℕ) → n < 32 → get_or calls n None ≡ call_of stage n (run n)) → (n : ℕ) → n ≤ 32 → flat_map call_bytes (take n calls) ≡ stage_bytes stage run n
  fields_below each zero h = sym (stage_none stage run)
  fields_below each (suc n) h =
      let more = rw (add-one n) at (fields_more calls n (omega arith)) in
      let further = rw (add-one n) at (stage_more stage run n) in
      more ∙ ap (λ b. b ++ call_bytes (get_or calls n None)) (fields_below each n (omega arith)) ∙ ap (λ c. stage_bytes stage run n ++ call_bytes c) (each n (omega arith)) ∙ sym further

  -- no event has no call in any stage
  idle : (stage : Stage) (n : ℕ) → call_of stage n None ≡ None
  idle Entries n = refl
  idle Ties n = refl
  idle Settlings n = refl

  -- so where it has what is given for it, if that is the call of the stage
  pub stage_fields : (gives : ℕ → Event → Option Action → Type 0) → MadeOf gives run calls → ((n : ℕ) (e : Event) (c : Option Action) → gives n e c → c ≡ call_of stage n (Some e)) → flat_map call_bytes calls ≡ stage_bytes stage run 32
  stage_fields gives made same = ap (flat_map call_bytes) (sym (take_all 32 calls (omega arith))) ∙ fields_below (λ n l. go n (run n) (get_or calls n None) (made n l)) 32 (omega arith)
    where
      go : (n : ℕ) (o : Option Event) (c : Option Action) → Made gives n o c → c ≡ call_of stage n o
      go n None c h = h ∙ sym (idle stage n)
      go n (Some e) c h = same n e c h

-- the record of a run: the fields of its three stages, and the end
pub record_joins : (run : Run) (entries ties settlings : List (Option Action)) → flat_map call_bytes entries ≡ stage_bytes Entries run 32 → flat_map call_bytes ties ≡ stage_bytes Ties run 32 →
    flat_map call_bytes settlings ≡ stage_bytes Settlings run 32 → flat_map call_bytes (flat_map (λ calls. calls) (entries ∷ ties ∷ settlings ∷ [])) ++ end ≡ record_bytes run
record_joins run entries ties settlings one two three =
    let first = calls_below Entries run 32 in
    let second = calls_below Ties run 32 in
    let third = calls_below Settlings run 32 in
    let a = flat_map-append call_bytes entries (ties ++ (settlings ++ [])) in
    let b = flat_map-append call_bytes ties (settlings ++ []) in
    let c = append-nil settlings in
    let d = spelled_join first (second ++ third) in
    let e = spelled_join second third in
    cc
