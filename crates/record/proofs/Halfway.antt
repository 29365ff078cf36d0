-- The run that a reader has halfway through a stage of a written record. Assumes nothing.
use Rattle.std.proofs.Common.{◌≡◌, ℕ, suc, ◌<◌, ◌≤◌, Bool, true, false, cond, ltb, ◌⊎◌, Some, None, Option, sym, refl, ap, ◌∙◌, subst, inl, inr, arith}
use mathlib.Core.Path.{fun_ext}
use Rattle.std.specs.Option.{option_map}
use Rattle.std.proofs.lemmas.Bool.{cases_eq, cases_lt, lt-ltb, le-ltb}
use Rattle.run.specs.declared.event.Event.{Event}
use Rattle.run.specs.Runs.{Run, Stands}
use Rattle.bench.specs.Steps.{put}
use Rattle.bench.proofs.Stays.{put_here, put_there}
use Rattle.bench.proofs.Marks.{Alike}
use Rattle.record.specs.RoundTrip.{Confined}
use Rattle.record.specs.Writing.{Stage, Entries, Ties, Settlings}

-- the event's fields with other marks
abbrev pub marked : Event → Option ℕ → Bool → Event
marked e source settled = record { kind = e.kind; thread = e.thread; step = e.step; location = e.location; value = e.value; source = source; settled = settled }

-- the event as it is entered, and as it is tied
abbrev pub bare : Event → Event
bare e = marked e None false

abbrev pub tied : Event → Event
tied e = marked e e.source false

-- what stands where the written run has an event, before a stage and after it
abbrev pub begun : Stage → Option Event → Option Event
begun Entries o = None
begun Ties o = option_map bare o
begun Settlings o = option_map tied o

abbrev pub done : Stage → Option Event → Option Event
done Entries o = option_map bare o
done Ties o = option_map tied o
done Settlings o = o

-- the stage is done below a number, and not from there on
pub halfway : Stage → Run → ℕ → Run
halfway stage run n k = cond (ltb k n) (done stage (run k)) (begun stage (run k))

-- at a number below, and at another one
pub halfway_below : (stage : Stage) (run : Run) (n k : ℕ) → k < n → halfway stage run n k ≡ done stage (run k)
unfolding halfway
halfway_below stage run n k h = rw (lt-ltb k n h) refl

pub halfway_from : (stage : Stage) (run : Run) (n k : ℕ) → n ≤ k → halfway stage run n k ≡ begun stage (run k)
unfolding halfway
halfway_from stage run n k h = rw (le-ltb k n h) refl

-- at first it is nowhere done
pub halfway_none : (stage : Stage) (run : Run) → halfway stage run 0 ≡ (λ k. begun stage (run k))
halfway_none stage run = fun_ext (λ k. halfway_from stage run 0 k (omega arith))

-- a stage makes nothing of no event
idle : (stage : Stage) → begun stage None ≡ done stage None
idle Entries = refl
idle Ties = refl
idle Settlings = refl

-- at last it is everywhere done
pub halfway_all : (stage : Stage) (run : Run) → Confined run → halfway stage run 32 ≡ (λ k. done stage (run k))
halfway_all stage run confined = fun_ext (λ k. go k (cases_lt k 32))
  where
    go : (k : ℕ) → (k < 32) ⊎ (32 ≤ k) → halfway stage run 32 k ≡ done stage (run k)
    go k (inl h) = halfway_below stage run 32 k h
    go k (inr h) = halfway_from stage run 32 k h ∙ ap (begun stage) (confined k h) ∙ idle stage ∙ ap (done stage) (sym (confined k h))

-- to put down what is done at a number is to do the stage there
pub next_put : (stage : Stage) (run : Run) (n : ℕ) (o : Option Event) → o ≡ done stage (run n) → put (halfway stage run n) n o ≡ halfway stage run (suc n)
next_put stage run n o is = fun_ext (λ k. go k (cases_eq k n))
  where
    side : (k : ℕ) → (k ≡ n → ⊥) → (k < n) ⊎ (n ≤ k) → halfway stage run n k ≡ halfway stage run (suc n) k
    side k h (inl l) = halfway_below stage run n k l ∙ sym (halfway_below stage run (suc n) k (omega arith))
    side k h (inr l) = halfway_from stage run n k l ∙ sym (halfway_from stage run (suc n) k (omega arith))

    go : (k : ℕ) → (k ≡ n) ⊎ (k ≡ n → ⊥) → put (halfway stage run n) n o k ≡ halfway stage run (suc n) k
    go k (inl h) = ap (put (halfway stage run n) n o) h ∙ put_here (halfway stage run n) n o ∙ is ∙ sym (halfway_below stage run (suc n) n (omega arith)) ∙ ap (halfway stage run (suc n)) (sym h)
    go k (inr h) = put_there (halfway stage run n) n o k h ∙ side k h (cases_lt k n)

-- where it makes no difference, the run stays
pub next_same : (stage : Stage) (run : Run) (n : ℕ) → begun stage (run n) ≡ done stage (run n) → halfway stage run n ≡ halfway stage run (suc n)
next_same stage run n is = sym (fun_ext (λ k. same k (cases_eq k n))) ∙ next_put stage run n (halfway stage run n n) (halfway_from stage run n n (omega arith) ∙ is)
  where
    same : (k : ℕ) → (k ≡ n) ⊎ (k ≡ n → ⊥) → put (halfway stage run n) n (halfway stage run n n) k ≡ halfway stage run n k
    same k (inl h) = ap (put (halfway stage run n) n (halfway stage run n n)) h ∙ put_here (halfway stage run n) n (halfway stage run n n) ∙ ap (halfway stage run n) (sym h)
    same k (inr h) = put_there (halfway stage run n) n (halfway stage run n n) k h

-- the same fields, and settled only if the other event is
abbrev pub Part : Event → Event → Type 0
Part f e = Alike f e × (f.settled ≡ true → e.settled ≡ true)

-- other marks change no field
marked_alike : (e : Event) (source : Option ℕ) (settled : Bool) → Alike (marked e source settled) e
marked_alike e source settled = record { kind = refl; thread = refl; step = refl; location = refl; value = refl }

-- an event not settled is part of the same event settled
pub unsettled_part : (e : Event) (source : Option ℕ) → Part (marked e source false) e
unsettled_part e source = (marked_alike e source false, λ h. cc)

-- an event made of another one is part of it
part_of : (p : Event → Event) → ((e : Event) → Part (p e) e) → (o : Option Event) (f : Event) → option_map p o ≡ Some f → (e : Event) × (o ≡ Some e) × Part f e
part_of p each None f h = let z : ◌≡◌ {A = ℕ} 0 1 = cc in absurd (omega arith)
part_of p each (Some e) f h = let same : p e ≡ f = cc in (e, refl, subst (λ v. Part v e) same (each e))

-- what stands halfway is part of what the run has there
pub halfway_part : (stage : Stage) (run : Run) (n m : ℕ) (f : Event) → Stands (halfway stage run n) m f → (e : Event) × Stands run m e × Part f e
unfolding halfway
halfway_part stage run n m f s = let p = go stage (ltb m n) (run m) s.1 in (p.0, (s.0, p.1), p.2)
  where
    go : (stage : Stage) (b : Bool) (o : Option Event) → cond b (done stage o) (begun stage o) ≡ Some f → (e : Event) × (o ≡ Some e) × Part f e
    go Entries true o h = part_of bare (λ e. unsettled_part e None) o f h
    go Entries false o h = let z : ◌≡◌ {A = ℕ} 0 1 = cc in absurd (omega arith)
    go Ties true o h = part_of tied (λ e. unsettled_part e e.source) o f h
    go Ties false o h = part_of bare (λ e. unsettled_part e None) o f h
    go Settlings true o h = (f, h, (marked_alike f f.source f.settled, λ u. u))
    go Settlings false o h = part_of tied (λ e. unsettled_part e e.source) o f h
