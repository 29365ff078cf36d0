-- A step that no refusal forbids keeps an orderly run orderly. Assumes nothing.
use Rattle.std.proofs.Common.{◌≡◌, ℕ, ◌<◌, true, false, ◌⊎◌, Some, None, Option, sym, refl, ap, ◌∙◌, subst, inl, inr, ⊎_elim}
use Rattle.std.proofs.lemmas.Bool.{cases_eq, eq-eqb, ne_eqb}
use Rattle.run.specs.declared.event.Event.{Event}
use Rattle.bench.specs.declared.action.Entry.{Entry}
use Rattle.bench.specs.declared.action.Action.{Action}
use Rattle.bench.specs.declared.action.Action.TheVariants.{Enter, Tie, Settle}
use Rattle.run.specs.declared.rule.Rule.TheVariants.{Ranges, Steps, Initials, Sources}
use Rattle.run.specs.Events.{Read, Write, Initial, InRange, SamePlace, Threaded}
use Rattle.bench.specs.Steps.{fresh, put, taken}
use Rattle.run.specs.Runs.{Run, Stands}
use Rattle.run.specs.Rules.{Keeps, Kept, Supplies, OnlySettled}
use Rattle.bench.specs.Keeps.{Orderly}

-- what a run has at the number that was put, and elsewhere
pub put_here : (run : Run) (k : ℕ) (o : Option Event) → put run k o k ≡ o
put_here run k o = rw (eq-eqb k k refl) refl

pub put_there : (run : Run) (k : ℕ) (o : Option Event) (n : ℕ) → (n ≡ k → ⊥) → put run k o n ≡ run n
put_there run k o n h = rw (ne_eqb n k h) refl

-- an event of the run after is the one put down, or stood elsewhere before
pub came : (run : Run) (k : ℕ) (v : Event) (n : ℕ) (e : Event) → Stands (put run k (Some v)) n e → ((n ≡ k) × (e ≡ v)) ⊎ ((n ≡ k → ⊥) × Stands run n e)
came run k v n e s = go (cases_eq n k)
  where
    go : (n ≡ k) ⊎ (n ≡ k → ⊥) → ((n ≡ k) × (e ≡ v)) ⊎ ((n ≡ k → ⊥) × Stands run n e)
    go (inl h) = let same : Some e ≡ Some v = sym s.1 ∙ ap (put run k (Some v)) h ∙ put_here run k (Some v) in inl (h, cc)
    go (inr h) = inr (h, (s.0, sym (put_there run k (Some v) n h) ∙ s.1))

-- events elsewhere stay
pub stays_there : (run : Run) (k : ℕ) (o : Option Event) (n : ℕ) (e : Event) → (n ≡ k → ⊥) → Stands run n e → Stands (put run k o) n e
stays_there run k o n e h s = (s.0, put_there run k o n h ∙ s.1)

pub stands_here : (run : Run) (k : ℕ) (v : Event) → k < 32 → Stands (put run k (Some v)) k v
stands_here run k v l = (l, put_here run k (Some v))

-- one number has one event
pub one_event : (run : Run) (n : ℕ) (e f : Event) → Stands run n e → Stands run n f → e ≡ f
one_event run n e f s t = let same : Some e ≡ Some f = sym s.1 ∙ t.1 in cc

-- what an entry must be for no refusal to apply
pub record Enterable (run : Run) (x : Entry) : Type 0 where
  pub below : x.number < 32
  pub free : run x.number ≡ None
  pub ranged : InRange (fresh x)
  pub steps : Keeps Steps run x.number (fresh x)
  pub initials : Keeps Initials run x.number (fresh x)

-- what a tie must be
pub record Tieable (run : Run) (r w : ℕ) : Type 0 where
  pub read : Event
  pub write : Event
  pub read_stands : Stands run r read
  pub write_stands : Stands run w write
  pub reads : Read read
  pub writes : Write write
  pub place : SamePlace read write
  pub same : read.value ≡ write.value

-- what a settling must be
pub record Settleable (run : Run) (n : ℕ) : Type 0 where
  pub write : Event
  pub stands : Stands run n write
  pub writes : Write write
  pub only : OnlySettled run n write

-- the action is a step
abbrev pub Open : Run → Action → Type 0
Open run (Enter x) = Enterable run x
Open run (Tie r w) = Tieable run r w
Open run (Settle n) = Settleable run n

-- the run after an entry
abbrev After : Run → Entry → Run
After run x = put run x.number (Some (fresh x))

-- where nothing stood, an event of before stands elsewhere
elsewhere : (run : Run) (k n : ℕ) (e : Event) → run k ≡ None → Stands run n e → n ≡ k → ⊥
elsewhere run k n e free s h = let clash : Some e ≡ None = sym s.1 ∙ ap run h ∙ free in cc

-- a relation between events that a rule forbids, seen from both sides
entered_apart : (run : Run) (x : Entry) (P : Event → Type 0) (R : Event → Event → Type 0) →
    ((e f : Event) → P e → R f e → P f) → ((e f : Event) → P e → R f e → R e f) →
    ((n : ℕ) (e : Event) → Stands run n e → P e → (m : ℕ) (f : Event) → Stands run m f → R f e → m ≡ n) →
    (P (fresh x) → (m : ℕ) (f : Event) → Stands run m f → R f (fresh x) → m ≡ x.number) →
    (n : ℕ) (e : Event) → Stands (After run x) n e → P e → (m : ℕ) (f : Event) → Stands (After run x) m f → R f e → m ≡ n
entered_apart run x P R along flip before new n e s p m f t r = go (came run x.number (fresh x) n e s) (came run x.number (fresh x) m f t)
  where
    go : ((n ≡ x.number) × (e ≡ fresh x)) ⊎ ((n ≡ x.number → ⊥) × Stands run n e) → ((m ≡ x.number) × (f ≡ fresh x)) ⊎ ((m ≡ x.number → ⊥) × Stands run m f) → m ≡ n
    go (inl h) (inl g) = g.0 ∙ sym h.0
    go (inl h) (inr g) = new (subst P h.1 p) m f g.1 (subst (λ v. R f v) h.1 r) ∙ sym h.0
    go (inr h) (inl g) =
        let r' : R (fresh x) e = subst (λ v. R v e) g.1 r in
        g.0 ∙ sym (new (along e (fresh x) p r') n e h.1 (flip e (fresh x) p r'))
    go (inr h) (inr g) = before n e h.1 p m f g.1 r

entered_ranges : (run : Run) (x : Entry) → Enterable run x → Orderly run → Kept Ranges (After run x)
entered_ranges run x good old n e s = ⊎_elim (λ h. subst InRange (sym h.1) good.ranged) (λ h. old.ranges n e h.1) (came run x.number (fresh x) n e s)

entered_steps : (run : Run) (x : Entry) → Enterable run x → Orderly run → Kept Steps (After run x)
entered_steps run x good old n e s threaded m f t th st =
    entered_apart run x Threaded (λ f e. (f.thread ≡ e.thread) × (f.step ≡ e.step))
    (λ e f p r. let same : f.thread ≡ e.thread = r.0 in rw same p) (λ e f p r. (sym r.0, sym r.1))
    (λ n e s p m f t r. old.steps n e s p m f t r.0 r.1) (λ p m f t r. good.steps p m f t r.0 r.1)
    n e s threaded m f t (th, st)

entered_initials : (run : Run) (x : Entry) → Enterable run x → Orderly run → Kept Initials (After run x)
entered_initials run x good old n e s initial m f t twin place =
    entered_apart run x Initial (λ f e. Initial f × SamePlace f e)
    (λ e f p r. r.0) (λ e f p r. (p, sym r.1))
    (λ n e s p m f t r. old.initials n e s p m f t r.0 r.1) (λ p m f t r. good.initials p m f t r.0 r.1)
    n e s initial m f t (twin, place)

-- a source stays a source where nothing stood before
entered_supplies : (run : Run) (x : Entry) → Enterable run x → (w : ℕ) (e : Event) → Supplies run w e → Supplies (After run x) w e
entered_supplies run x good w e h =
    record {
      write = h.write;
      stands = stays_there run x.number (Some (fresh x)) w h.write (elsewhere run x.number w h.write good.free h.stands) h.stands;
      writes = h.writes;
      place = h.place;
      same = h.same;
    }

entered_sources : (run : Run) (x : Entry) → Enterable run x → Orderly run → Kept Sources (After run x)
entered_sources run x good old n e s w from = go (came run x.number (fresh x) n e s)
  where
    go : ((n ≡ x.number) × (e ≡ fresh x)) ⊎ ((n ≡ x.number → ⊥) × Stands run n e) → Read e × Supplies (After run x) w e
    go (inl h) = let clash : None ≡ Some w = sym (ap (λ (v : Event). v.source) h.1) ∙ from in absurd (cc)
    go (inr h) = let was = old.sources n e h.1 w from in (was.0, entered_supplies run x good w e was.1)

entered_settlings : (run : Run) (x : Entry) → Enterable run x → Orderly run → (n : ℕ) (e : Event) → Stands (After run x) n e → e.settled ≡ true → Write e × OnlySettled (After run x) n e
entered_settlings run x good old n e s settled = go (came run x.number (fresh x) n e s)
  where
    new : (v : Event) → v ≡ fresh x → v.settled ≡ true → ⊥
    new v h t = let clash : false ≡ true = sym (ap (λ (u : Event). u.settled) h) ∙ t in cc

    go : ((n ≡ x.number) × (e ≡ fresh x)) ⊎ ((n ≡ x.number → ⊥) × Stands run n e) → Write e × OnlySettled (After run x) n e
    go (inl h) = absurd (new e h.1 settled)
    go (inr h) =
        let was = old.settlings n e h.1 settled in
        (was.0, λ m f t writes final place. ⊎_elim (λ g. absurd (new f g.1 final)) (λ g. was.1 m f g.1 writes final place) (came run x.number (fresh x) m f t))

pub entered_orderly : (run : Run) (x : Entry) → Enterable run x → Orderly run → Orderly (taken run (Enter x))
entered_orderly run x good old =
    record {
      ranges = entered_ranges run x good old;
      steps = entered_steps run x good old;
      initials = entered_initials run x good old;
      sources = entered_sources run x good old;
      settlings = entered_settlings run x good old;
    }
