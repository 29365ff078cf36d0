-- Ties and settlings change a mark of one event and no field: an orderly run stays orderly. Assumes nothing.
use Rattle.std.proofs.Common.{◌≡◌, ℕ, true, ◌⊎◌, Some, sym, refl, ap, ◌∙◌, subst, inl, inr, ⊎_elim}
use Rattle.std.specs.Option.{option_map}
use Rattle.std.proofs.lemmas.Bool.{cases_eq}
use Rattle.run.specs.declared.event.Event.{Event}
use Rattle.bench.specs.declared.action.Action.TheVariants.{Tie, Settle}
use Rattle.run.specs.declared.rule.Rule.TheVariants.{Ranges, Steps, Initials, Sources}
use Rattle.run.specs.Events.{Read, Write, InRange}
use Rattle.run.specs.Runs.{Run, Stands}
use Rattle.run.specs.Rules.{Kept, Supplies, OnlySettled}
use Rattle.bench.specs.Keeps.{Orderly}
use Rattle.bench.specs.Steps.{put, sourced, final, taken}
use Rattle.bench.proofs.Stays.{came, stays_there, stands_here, one_event, Tieable, Settleable}

-- the events agree in every field
pub record Alike (e f : Event) : Type 0 where
  pub kind : e.kind ≡ f.kind
  pub thread : e.thread ≡ f.thread
  pub step : e.step ≡ f.step
  pub location : e.location ≡ f.location
  pub value : e.value ≡ f.value

alike_self : (e : Event) → Alike e e
alike_self e = record { kind = refl; thread = refl; step = refl; location = refl; value = refl }

pub alike_flip : (e f : Event) → Alike e f → Alike f e
alike_flip e f a = record { kind = sym a.kind; thread = sym a.thread; step = sym a.step; location = sym a.location; value = sym a.value }

-- what is said of an event's kind holds of one that is alike
kind_along : (P : ℕ → Type 0) (e f : Event) → Alike e f → P f.kind → P e.kind
kind_along P e f a p = subst P (sym a.kind) p

pub write_along : (e f : Event) → Alike e f → Write f → Write e
write_along e f a w = kind_along (λ k. (k ≡ 1) ⊎ (k ≡ 4)) e f a w

range_along : (e f : Event) → Alike e f → InRange f → InRange e
range_along e f a h =
    record {
      kinds = rw a.kind h.kinds;
      origin = λ i. let o = h.origin (sym a.kind ∙ i) in (a.thread ∙ o.0, a.step ∙ o.1);
      threads = λ i. let t = h.threads (λ j. i (a.kind ∙ j)) in rw a.thread t;
      located = λ m. rw a.location (h.located (kind_along (λ k. (k ≡ 0) ⊎ ((k ≡ 1) ⊎ (k ≡ 4))) f e (alike_flip e f a) m));
      placeless = λ p. let q = h.placeless (kind_along (λ k. (k ≡ 2) ⊎ (k ≡ 3)) f e (alike_flip e f a) p) in (a.location ∙ q.0, a.value ∙ q.1);
    }

-- the run after has at each number an event alike to the one before, and none elsewhere
pub record Marked (run after : Run) : Type 0 where
  pub back : (n : ℕ) (e : Event) → Stands after n e → (f : Event) × Stands run n f × Alike e f
  pub forth : (n : ℕ) (e : Event) → Stands run n e → (f : Event) × Stands after n f × Alike f e

-- to change an event into one that is alike is to mark it
marks : (run : Run) (k : ℕ) (e v : Event) → Stands run k e → Alike v e → Marked run (put run k (Some v))
marks run k e v s a =
    record {
      back = λ n f t. ⊎_elim (λ h. (e, subst (λ i. Stands run i e) (sym h.0) s, subst (λ u. Alike u e) (sym h.1) a)) (λ h. (f, h.1, alike_self f)) (came run k v n f t);
      forth = λ n f t. forth n f t (cases_eq n k);
    }
  where
    forth : (n : ℕ) (f : Event) → Stands run n f → (n ≡ k) ⊎ (n ≡ k → ⊥) → (g : Event) × Stands (put run k (Some v)) n g × Alike g f
    forth n f t (inl h) =
        let same : f ≡ e = one_event run k f e (subst (λ i. Stands run i f) h t) s in
        (v, subst (λ i. Stands (put run k (Some v)) i v) (sym h) (stands_here run k v s.0), subst (λ u. Alike v u) (sym same) a)
    forth n f t (inr h) = (f, stays_there run k (Some v) n f h t, alike_self f)

marked_ranges : (run after : Run) → Marked run after → Kept Ranges run → Kept Ranges after
marked_ranges run after m kept n e s = let b = m.back n e s in range_along e b.0 b.2 (kept n b.0 b.1)

marked_steps : (run after : Run) → Marked run after → Kept Steps run → Kept Steps after
marked_steps run after m kept n e s threaded k f t th st =
    let b = m.back n e s in
    let g = m.back k f t in
    kept n b.0 b.1 (rw b.2.thread at threaded) k g.0 g.1 (sym g.2.thread ∙ th ∙ b.2.thread) (sym g.2.step ∙ st ∙ b.2.step)

marked_initials : (run after : Run) → Marked run after → Kept Initials run → Kept Initials after
marked_initials run after m kept n e s initial k f t twin place =
    let b = m.back n e s in
    let g = m.back k f t in
    kept n b.0 b.1 (sym b.2.kind ∙ initial) k g.0 g.1 (sym g.2.kind ∙ twin) (sym g.2.location ∙ place ∙ b.2.location)

marked_supplies : (run after : Run) → Marked run after → (w : ℕ) (e f : Event) → Alike e f → Supplies run w f → Supplies after w e
marked_supplies run after m w e f a h =
    let g = m.forth w h.write h.stands in
    record {
      write = g.0;
      stands = g.1;
      writes = write_along g.0 h.write g.2 h.writes;
      place = g.2.location ∙ h.place ∙ sym a.location;
      same = g.2.value ∙ h.same ∙ sym a.value;
    }

-- the run after a tie, and after a settling, written out
tied_run : (run : Run) (r w : ℕ) (e : Event) → Stands run r e → taken run (Tie r w) ≡ put run r (Some (sourced w e))
tied_run run r w e s = ap (λ o. put run r (option_map (sourced w) o)) s.1

settled_run : (run : Run) (n : ℕ) (e : Event) → Stands run n e → taken run (Settle n) ≡ put run n (Some (final e))
settled_run run n e s = ap (λ o. put run n (option_map final o)) s.1

sourced_alike : (w : ℕ) (e : Event) → Alike (sourced w e) e
sourced_alike w e = record { kind = refl; thread = refl; step = refl; location = refl; value = refl }

final_alike : (e : Event) → Alike (final e) e
final_alike e = record { kind = refl; thread = refl; step = refl; location = refl; value = refl }

-- after a tie the read has its new source, and every other source is as it was
tied_sources : (run : Run) (r w : ℕ) (t : Tieable run r w) → Orderly run → Kept Sources (put run r (Some (sourced w t.read)))
tied_sources run r w t old n e s v from = go (came run r (sourced w t.read) n e s)
  where
    m : Marked run (put run r (Some (sourced w t.read)))
    m = marks run r t.read (sourced w t.read) t.read_stands (sourced_alike w t.read)

    go : ((n ≡ r) × (e ≡ sourced w t.read)) ⊎ ((n ≡ r → ⊥) × Stands run n e) → Read e × Supplies (put run r (Some (sourced w t.read))) v e
    go (inl h) =
        let is : Some w ≡ Some v = sym (ap (λ (u : Event). u.source) h.1) ∙ from in
        let same : w ≡ v = cc in
        let a : Alike e t.read = subst (λ u. Alike u t.read) (sym h.1) (sourced_alike w t.read) in
        let supplied : Supplies run w t.read = record { write = t.write; stands = t.write_stands; writes = t.writes; place = sym t.place; same = sym t.same } in
        (a.kind ∙ t.reads, marked_supplies run _ m v e t.read a (subst (λ i. Supplies run i t.read) same supplied))
    go (inr h) = let was = old.sources n e h.1 v from in (was.0, marked_supplies run _ m v e e (alike_self e) was.1)

-- after a tie every mark of settling is as it was
tied_settlings : (run : Run) (r w : ℕ) (t : Tieable run r w) → Orderly run →
    (n : ℕ) (e : Event) → Stands (put run r (Some (sourced w t.read))) n e → e.settled ≡ true → Write e × OnlySettled (put run r (Some (sourced w t.read))) n e
tied_settlings run r w t old n e s settled =
    let b = before n e s in
    let was = old.settlings n b.0 b.1 (sym b.3 ∙ settled) in (
      write_along e b.0 b.2 was.0,
      λ k f u writes final place. let g = before k f u in was.1 k g.0 g.1 (write_along g.0 f (alike_flip f g.0 g.2) writes) (sym g.3 ∙ final) (sym g.2.location ∙ place ∙ b.2.location),
    )
  where
    before : (n : ℕ) (e : Event) → Stands (put run r (Some (sourced w t.read))) n e → (f : Event) × Stands run n f × Alike e f × (e.settled ≡ f.settled)
    before n e s =
        ⊎_elim
        (λ h. (t.read, subst (λ i. Stands run i t.read) (sym h.0) t.read_stands, subst (λ u. Alike u t.read) (sym h.1) (sourced_alike w t.read), ap (λ (u : Event). u.settled) h.1))
        (λ h. (e, h.1, alike_self e, refl))
        (came run r (sourced w t.read) n e s)

tied_put : (run : Run) (r w : ℕ) (t : Tieable run r w) → Orderly run → Orderly (put run r (Some (sourced w t.read)))
tied_put run r w t old =
    let m = marks run r t.read (sourced w t.read) t.read_stands (sourced_alike w t.read) in
    record {
      ranges = marked_ranges run _ m old.ranges;
      steps = marked_steps run _ m old.steps;
      initials = marked_initials run _ m old.initials;
      sources = tied_sources run r w t old;
      settlings = tied_settlings run r w t old;
    }

pub tied_orderly : (run : Run) (r w : ℕ) → Tieable run r w → Orderly run → Orderly (taken run (Tie r w))
tied_orderly run r w t old = subst Orderly (sym (tied_run run r w t.read t.read_stands)) (tied_put run r w t old)

-- after a settling every source is as it was
settled_sources : (run : Run) (k : ℕ) (t : Settleable run k) → Orderly run → Kept Sources (put run k (Some (final t.write)))
settled_sources run k t old n e s v from =
    let b = before in
    let was = old.sources n b.0 b.1 v (sym b.3 ∙ from) in
    (b.2.kind ∙ was.0, marked_supplies run _ (marks run k t.write (final t.write) t.stands (final_alike t.write)) v e b.0 b.2 was.1)
  where
    before : (f : Event) × Stands run n f × Alike e f × (e.source ≡ f.source)
    before =
        ⊎_elim
        (λ h. (t.write, subst (λ i. Stands run i t.write) (sym h.0) t.stands, subst (λ u. Alike u t.write) (sym h.1) (final_alike t.write), ap (λ (u : Event). u.source) h.1))
        (λ h. (e, h.1, alike_self e, refl))
        (came run k (final t.write) n e s)

-- after a settling no location has two settled writes
settled_settlings : (run : Run) (k : ℕ) (t : Settleable run k) → Orderly run →
    (n : ℕ) (e : Event) → Stands (put run k (Some (final t.write))) n e → e.settled ≡ true → Write e × OnlySettled (put run k (Some (final t.write))) n e
settled_settlings run k t old n e s settled = go (came run k (final t.write) n e s)
  where
    go : ((n ≡ k) × (e ≡ final t.write)) ⊎ ((n ≡ k → ⊥) × Stands run n e) → Write e × OnlySettled (put run k (Some (final t.write))) n e
    go (inl h) =
        let a : Alike e t.write = subst (λ u. Alike u t.write) (sym h.1) (final_alike t.write) in (
          write_along e t.write a t.writes,
          λ m f u writes fin place. ⊎_elim (λ g. g.0 ∙ sym h.0) (λ g. t.only m f g.1 writes fin (place ∙ a.location) ∙ sym h.0) (came run k (final t.write) m f u),
        )
    go (inr h) =
        let was = old.settlings n e h.1 settled in (
          was.0,
          λ m f u writes fin place.
              ⊎_elim
              (λ g. g.0 ∙ sym (t.only n e h.1 was.0 settled (sym place ∙ ap (λ (v : Event). v.location) g.1)))
              (λ g. was.1 m f g.1 writes fin place)
              (came run k (final t.write) m f u),
        )

settled_put : (run : Run) (k : ℕ) (t : Settleable run k) → Orderly run → Orderly (put run k (Some (final t.write)))
settled_put run k t old =
    let m = marks run k t.write (final t.write) t.stands (final_alike t.write) in
    record {
      ranges = marked_ranges run _ m old.ranges;
      steps = marked_steps run _ m old.steps;
      initials = marked_initials run _ m old.initials;
      sources = settled_sources run k t old;
      settlings = settled_settlings run k t old;
    }

pub settled_orderly : (run : Run) (k : ℕ) → Settleable run k → Orderly run → Orderly (taken run (Settle k))
settled_orderly run k t old = subst Orderly (sym (settled_run run k t.write t.stands)) (settled_put run k t old)
