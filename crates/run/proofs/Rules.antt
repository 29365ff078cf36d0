-- Each test of specs/Tests decides what its rule asks. Assumes nothing.
use Rattle.std.proofs.Common.{◌≡◌, ℕ, ◌≤◌, Bool, true, false, cond, ◌↔◌, not, ◌&&◌, ◌||◌, eqb, leb, is_some, Some, None, Decides, Option, sym, refl, ap, ◌∙◌, subst, inl, inr, ⊎_elim, arith}
use Rattle.std.proofs.lemmas.Bool.{leb-true, le-leb, cases_eq, cases_lt, eq-eqb, ne_eqb, cond_below, cond_above, false≢true}
use Rattle.std.proofs.lemmas.Bool.Decides.{Decides-eqb, Decides-like, Decides-not, Decides-and, Decides-or, Decides-below_or}
use Rattle.run.specs.declared.event.Event.{Event}
use Rattle.run.specs.declared.rule.Rule.{Rule}
use Rattle.run.specs.declared.rule.Rule.TheVariants.{Ranges, Steps, Initials, Sources, Settlings, Initialised, Tied}
use Rattle.run.specs.Events.{Read, Initial, Write, Memory, Placeless, Threaded, SamePlace, InRange}
use Rattle.run.specs.Runs.{Run, Stands, shown, without}
use Rattle.run.specs.Rules.{Supplies, OnlySettled, OnlyWrite, Keeps}
use Rattle.run.specs.Tests.{any_below, holds, is_read, is_initial, is_write, is_memory, is_threaded, same_place, well_threaded, well_placed, in_range, same_step, supplies, some, some_other, rivalled, ill_sourced, misplaced, broken}

-- a flag decides that it is up
pub flag_decided : (b : Bool) → Decides b (b ≡ true)
flag_decided b = (λ h. h, λ h. h)

-- the test of an order decides it
pub leb_decided : (a b : ℕ) → Decides (leb a b) (a ≤ b)
leb_decided a b = (leb-true a b, le-leb a b)

-- a test denied twice decides the same
pub twice_decided : {P : Type 0} (b : Bool) → Decides b P → Decides (not (not b)) P
twice_decided true d = d
twice_decided false d = d

module _ {P Q : Type 0} where
  -- the denial of a and b decides that P gives Q, where a decides P, and the denial of b decides Q
  pub unless_decided : (a b : Bool) → Decides a P → Decides (not b) Q → Decides (not (a && b)) (P → Q)
  unless_decided true b d k = (λ e _. k.0 e, λ h. k.1 (h (d.0 refl)))
  unless_decided false b d k = (λ _ p. absurd (false≢true (d.1 p)), λ _. refl)

  -- the denial of a or b decides what the denials of both decide
  pub neither_decided : (a b : Bool) → Decides (not a) P → Decides (not b) Q → Decides (not (a || b)) (P × Q)
  neither_decided true b d k = (λ e. absurd (false≢true e), λ h. d.1 h.0)
  neither_decided false b d k = (λ e. (d.0 refl, k.0 e), λ h. k.1 h.1)

-- a test by cases decides each case
pub cases_decided : {P Q R : Type 0} (a b c : Bool) → Decides a P → Decides b Q → Decides c R → Decides ((a && b) || (not a && c)) ((P → Q) × ((P → ⊥) → R))
cases_decided true true c d k l = (λ _. (λ _. k.0 refl, λ n. absurd (n (d.0 refl))), λ _. refl)
cases_decided true false c d k l = (λ e. absurd (false≢true e), λ h. k.1 (h.0 (d.0 refl)))
cases_decided false b c d k l = (λ e. (λ p. absurd (false≢true (d.1 p)), λ _. l.0 e), λ h. l.1 (h.1 (λ p. false≢true (d.1 p))))

-- the test of a kind decides it: a read
pub read_decided : (e : Event) → Decides (is_read e) (Read e)
read_decided e = Decides-eqb e.kind 0

-- an initial write
pub initial_decided : (e : Event) → Decides (is_initial e) (Initial e)
initial_decided e = Decides-eqb e.kind 4

-- a write
pub write_decided : (e : Event) → Decides (is_write e) (Write e)
write_decided e = Decides-or (eqb e.kind 1) (is_initial e) (Decides-eqb e.kind 1) (initial_decided e)

-- a read or a write
pub memory_decided : (e : Event) → Decides (is_memory e) (Memory e)
memory_decided e = Decides-or (is_read e) (is_write e) (read_decided e) (write_decided e)

-- a thread from 1 to 8
pub threaded_decided : (e : Event) → Decides (is_threaded e) (Threaded e)
threaded_decided e = Decides-and (leb 1 e.thread) (leb e.thread 8) (leb_decided 1 e.thread) (leb_decided e.thread 8)

-- one location
pub place_decided : (e f : Event) → Decides (same_place e f) (SamePlace e f)
place_decided e f = Decides-eqb e.location f.location

-- an event of one of the five kinds has a place, or is a fence or a branch
pub place_or_none : (e : Event) → e.kind ≤ 4 → (Memory e → ⊥) → Placeless e
place_or_none e h n = ⊎_elim inl (λ two. inr (grind arith)) (cases_eq e.kind 2)

-- a fence or a branch is no read and no write
pub placeless_apart : (e : Event) → Placeless e → Memory e → ⊥
placeless_apart e p m = grind arith

-- the test of thread and step decides both
pub well_threaded_decided : (e : Event) → Decides (well_threaded e) ((Initial e → (e.thread ≡ 0) × (e.step ≡ 0)) × ((Initial e → ⊥) → Threaded e))
well_threaded_decided e = cases_decided (is_initial e) _ _ (initial_decided e) (Decides-and _ _ (Decides-eqb e.thread 0) (Decides-eqb e.step 0)) (threaded_decided e)

-- the test of location and value decides both
pub well_placed_decided : (e : Event) → Decides (well_placed e) ((Memory e → e.location ≤ 15) × ((Memory e → ⊥) → (e.location ≡ 0) × (e.value ≡ 0)))
well_placed_decided e = cases_decided (is_memory e) _ _ (memory_decided e) (leb_decided e.location 15) (Decides-and _ _ (Decides-eqb e.location 0) (Decides-eqb e.value 0))

-- the test of ranges decides them
pub range_decided : (e : Event) → Decides (in_range e) (InRange e)
range_decided e =
    Decides-like (in_range e)
    (λ h. record { kinds = h.0; origin = h.1.0.0; threads = h.1.0.1; located = h.1.1.0; placeless = λ p. h.1.1.1 (placeless_apart e p) })
    (λ h. (h.kinds, ((h.origin, h.threads), (h.located, λ n. h.placeless (place_or_none e h.kinds n)))))
    (Decides-and _ _ (leb_decided e.kind 4) (Decides-and _ _ (well_threaded_decided e) (well_placed_decided e)))

-- a test of what stands at a number decides that an event stands there that meets it
pub holds_decided : (o : Option Event) (p : Event → Bool) (P : Event → Type 0) → ((f : Event) → Decides (p f) (P f)) → Decides (holds o p) ((f : Event) × (o ≡ Some f) × P f)
holds_decided None p P d = (λ e. absurd (false≢true e), λ h. cc h.1)
holds_decided (Some e) p P d = (λ h. (e, refl, (d e).0 h), λ h. let same : h.0 ≡ e = cc h.1 in (d e).1 (subst P same h.2))

-- a test over the run decides that some standing event meets it
pub some_decided : (run : Run) (test : Event → Bool) (P : Event → Type 0) → ((f : Event) → Decides (test f) (P f)) → Decides (some run test) ((m : ℕ) × (f : Event) × Stands run m f × P f)
unfolding any_below
some_decided run test P each =
    let p : ℕ → Bool = λ m. holds (run m) test in
    Decides-like (some run test)
    (λ h. (h.0, h.2.0, (h.1, h.2.1), h.2.2))
    (λ h. (h.0, h.2.0, (h.1, h.2.1, h.3)))
    (Decides-below_or p (λ m. (f : Event) × (run m ≡ Some f) × P f) (any_below p) (λ m. holds_decided (run m) test P each) refl (λ _. refl) 32)

-- what stands when an event is left out is another one
pub others_stand : (run : Run) (n m : ℕ) (f : Event) → Stands (without n run) m f ↔ ((m ≡ n → ⊥) × Stands run m f)
others_stand run n m f = (
  λ s. ⊎_elim
      (λ e. let clash : None ≡ Some f = sym (ap (λ b. cond b None (run m)) (eq-eqb m n e)) ∙ s.1 in absurd (cc clash))
      (λ ne. (ne, (s.0, sym (ap (λ b. cond b None (run m)) (ne_eqb m n ne)) ∙ s.1)))
      (cases_eq m n),
  λ h. (h.1.0, ap (λ b. cond b None (run m)) (ne_eqb m n h.0) ∙ h.1.1),
)

-- a test of the others decides that another standing event meets it
pub other_decided : (run : Run) (n : ℕ) (test : Event → Bool) (P : Event → Type 0) → ((f : Event) → Decides (test f) (P f)) → Decides (some_other run n test) ((m : ℕ) × (f : Event) × (m ≡ n → ⊥) × Stands run m f × P f)
other_decided run n test P each =
    Decides-like _
    (λ h. let s = (others_stand run n h.0 h.1).0 h.2 in (h.0, h.1, s.0, s.1, h.3))
    (λ h. (h.0, h.1, (others_stand run n h.0 h.1).1 (h.2, h.3), h.4))
    (some_decided (without n run) test P each)

-- its denial says that there is no other one
pub only_decided : (run : Run) (n : ℕ) (test : Event → Bool) (P : Event → Type 0) → ((f : Event) → Decides (test f) (P f)) → Decides (not (some_other run n test)) ((m : ℕ) (f : Event) → Stands run m f → P f → m ≡ n)
only_decided run n test P each =
    Decides-like _
    (λ none m f stands p. ⊎_elim (λ same. same) (λ other. absurd (none (m, f, other, stands, p))) (cases_eq m n))
    (λ only h. h.2 (only h.0 h.1 h.3 h.4))
    (Decides-not _ (other_decided run n test P each))

-- no other event has the thread and step
pub only_step_decided : (run : Run) (n : ℕ) (e : Event) → Decides (not (some_other run n (λ f. same_step f e))) ((m : ℕ) (f : Event) → Stands run m f → f.thread ≡ e.thread → f.step ≡ e.step → m ≡ n)
only_step_decided run n e =
    Decides-like _
    (λ only m f stands thread step. only m f stands (thread, step))
    (λ only m f stands h. only m f stands h.0 h.1)
    (only_decided run n _ (λ f. (f.thread ≡ e.thread) × (f.step ≡ e.step)) (λ f. Decides-and _ _ (Decides-eqb f.thread e.thread) (Decides-eqb f.step e.step)))

-- no other initial write has the location
pub only_initial_decided : (run : Run) (n : ℕ) (e : Event) → Decides (not (some_other run n (λ f. is_initial f && same_place f e))) ((m : ℕ) (f : Event) → Stands run m f → Initial f → SamePlace f e → m ≡ n)
only_initial_decided run n e =
    Decides-like _
    (λ only m f stands initial place. only m f stands (initial, place))
    (λ only m f stands h. only m f stands h.0 h.1)
    (only_decided run n _ (λ f. Initial f × SamePlace f e) (λ f. Decides-and _ _ (initial_decided f) (place_decided f e)))

-- a settled write of the location
pub rival_decided : (f e : Event) → Decides (is_write f && (f.settled && same_place f e)) (Write f × ((f.settled ≡ true) × SamePlace f e))
rival_decided f e = Decides-and _ _ (write_decided f) (Decides-and _ _ (flag_decided f.settled) (place_decided f e))

-- no other settled write has the location
pub only_settled_decided : (run : Run) (n : ℕ) (e : Event) → Decides (not (rivalled run n e)) (OnlySettled run n e)
only_settled_decided run n e =
    Decides-like _
    (λ only m f stands write up place. only m f stands (write, (up, place)))
    (λ only m f stands h. only m f stands h.0 h.1.0 h.1.1)
    (only_decided run n _ (λ f. Write f × ((f.settled ≡ true) × SamePlace f e)) (λ f. rival_decided f e))

-- no other write has the location
pub only_write_decided : (run : Run) (n : ℕ) (e : Event) → Decides (not (some_other run n (λ f. is_write f && same_place f e))) (OnlyWrite run n e)
only_write_decided run n e =
    Decides-like _
    (λ only m f stands write place. only m f stands (write, place))
    (λ only m f stands h. only m f stands h.0 h.1)
    (only_decided run n _ (λ f. Write f × SamePlace f e) (λ f. Decides-and _ _ (write_decided f) (place_decided f e)))

-- the test that there is a source decides it
pub tied_decided : (o : Option ℕ) → Decides (is_some o) ((w : ℕ) × (o ≡ Some w))
tied_decided None = (λ e. absurd (false≢true e), λ h. cc h.1)
tied_decided (Some w) = (λ _. (w, refl), λ _. refl)

-- what a source shows at a number stands there
pub shown_stands : (run : Run) (n : ℕ) (e : Event) → shown run n ≡ Some e → Stands run n e
shown_stands run n e h =
    ⊎_elim
    (λ lt. (lt, cond_below n 32 (run n) None lt ∙ h))
    (λ le. let clash : None ≡ Some e = cond_above n 32 (run n) None None le refl ∙ h in absurd (cc clash))
    (cases_lt n 32)

pub stands_shown : (run : Run) (n : ℕ) (e : Event) → Stands run n e → shown run n ≡ Some e
stands_shown run n e s = sym (cond_below n 32 (run n) None s.0) ∙ s.1

-- a test of what is shown at a number decides that such an event stands there
pub shown_decided : (run : Run) (n : ℕ) (p : Event → Bool) (P : Event → Type 0) → ((e : Event) → Decides (p e) (P e)) → Decides (holds (shown run n) p) ((e : Event) × Stands run n e × P e)
shown_decided run n p P each =
    Decides-like _ (λ h. (h.0, shown_stands run n h.0 h.1, h.2)) (λ h. (h.0, stands_shown run n h.0 h.1, h.2))
    (holds_decided (shown run n) p P each)

-- the write that is shown at a number supplies the event
pub supplied_decided : (run : Run) (w : ℕ) (e : Event) → Decides (holds (shown run w) (supplies e)) (Supplies run w e)
supplied_decided run w e =
    Decides-like _
    (λ h. record { write = h.0; stands = h.1; writes = h.2.0; place = h.2.1.0; same = h.2.1.1 })
    (λ h. (h.write, h.stands, (h.writes, (h.place, h.same))))
    (shown_decided run w (supplies e) (λ f. Write f × (SamePlace f e × (f.value ≡ e.value)))
    (λ f. Decides-and _ _ (write_decided f) (Decides-and _ _ (place_decided f e) (Decides-eqb f.value e.value))))

-- only a read has a source, which supplies it
pub sources_decided : (run : Run) (e : Event) (o : Option ℕ) → Decides (not (ill_sourced run e o)) ((w : ℕ) → o ≡ Some w → Read e × Supplies run w e)
sources_decided run e None = (λ h w clash. absurd (cc clash), λ h. refl)
sources_decided run e (Some w) =
    Decides-like _
    (λ h v is. let same : w ≡ v = cc is in subst (λ u. Read e × Supplies run u e) same h)
    (λ h. h w refl)
    (twice_decided _ (Decides-and _ _ (read_decided e) (supplied_decided run w e)))

-- some initial write has the location
pub origin_decided : (run : Run) (n : ℕ) (e : Event) → Decides (some run (λ f. is_initial f && same_place f e)) ((m : ℕ) × (f : Event) × Stands run m f × Initial f × SamePlace f e)
origin_decided run n e =
    Decides-like _
    (λ h. (h.0, h.1, h.2, h.3.0, h.3.1))
    (λ h. (h.0, h.1, h.2, (h.3, h.4)))
    (some_decided run _ (λ f. Initial f × SamePlace f e) (λ f. Decides-and _ _ (initial_decided f) (place_decided f e)))

-- a settled event is a write, and the only settled one of its location
pub settled_decided : (run : Run) (n : ℕ) (e : Event) → Decides (not (misplaced run n e)) (e.settled ≡ true → Write e × OnlySettled run n e)
settled_decided run n e =
    unless_decided e.settled _ (flag_decided e.settled) (neither_decided (not (is_write e)) _ (twice_decided (is_write e) (write_decided e)) (only_settled_decided run n e))

-- the denial of a rule's test decides that the event keeps the rule
pub decided : (rule : Rule) (run : Run) (n : ℕ) (e : Event) → Decides (not (broken rule run n e)) (Keeps rule run n e)
decided Ranges run n e = twice_decided (in_range e) (range_decided e)
decided Steps run n e = unless_decided (is_threaded e) _ (threaded_decided e) (only_step_decided run n e)
decided Initials run n e = unless_decided (is_initial e) _ (initial_decided e) (only_initial_decided run n e)
decided Sources run n e = sources_decided run e e.source
decided Settlings run n e =
    Decides-like (not (broken Settlings run n e))
    (λ h up. ((h.0 up).0, (h.0 up).1, h.1 up))
    (λ h. (λ up. ((h up).0, (h up).1), λ up. (h up).2))
    (neither_decided (misplaced run n e) _ (settled_decided run n e)
    (unless_decided e.settled _ (flag_decided e.settled) (unless_decided (is_initial e) _ (initial_decided e) (only_write_decided run n e))))
decided Initialised run n e = unless_decided (is_memory e) _ (memory_decided e) (twice_decided (some run (λ f. is_initial f && same_place f e)) (origin_decided run n e))
decided Tied run n e = unless_decided (is_read e) _ (read_decided e) (twice_decided _ (tied_decided e.source))
