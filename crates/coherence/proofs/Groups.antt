-- A location's writes by their roles: in a sound run the line of a location has them all, the initial one first, a settled one last. Assumes nothing.
use Rattle.std.proofs.Common.{◌≡◌, ℕ, ◌<◌, true, false, not, ◌&&◌, eqb, List, ◌++◌, length, Some, Decides, sym, refl, ◌∙◌, subst, inl, inr, ⊎_elim, append_assoc, arith}
use Rattle.std.proofs.lemmas.Bool.{both_ways, cases_Bool, not-true, not_from_false}
use Rattle.std.proofs.lemmas.Bool.Decides.{Decides-eqb, Decides-and}
use Rattle.run.specs.declared.event.Event.{Event}
use Rattle.run.specs.declared.rule.Rule.TheVariants.{Ranges, Initials, Settlings}
use Rattle.run.specs.Events.{Initial}
use Rattle.run.specs.Runs.{Run, Stands}
use Rattle.run.specs.Rules.{Sound}
use Rattle.run.specs.Tests.{is_initial}
use Rattle.run.proofs.Rules.{initial_decided, holds_decided}
use Rattle.finite.specs.Lists.{In, Apart}
use Rattle.finite.specs.Counts.{Counts}
use Rattle.coherence.specs.Lines.{Role}
use Rattle.coherence.specs.Lines.{First, Free, Last}
use Rattle.coherence.specs.Perms.{LinesUp, Rising, Sorted}
use Rattle.coherence.specs.Coherence.{WriteOf, InitialOf, SettledOf, FreeOf, Order, Coherence}
use Rattle.coherence.specs.Lines.{role_test, chosen, group, line, Precedes}
use Rattle.coherence.proofs.Perms.{rising_apart}
use Rattle.coherence.proofs.Rows.{in_append, in_left, in_right, apart_append, sorted_append, sorted_all, precedes_across, those_in, those_has, those_rising}

-- an event that stands at a number and has a property
abbrev pub There : Run → ℕ → (Event → Type 0) → Type 0
There run n P = (e : Event) × Stands run n e × P e

-- a number has one event
pub one_event : (run : Run) (n : ℕ) (e f : Event) → Stands run n e → Stands run n f → e ≡ f
one_event run n e f h k = let s = h.1 in let t = k.1 in cc

-- a group rises and has no repeats
pub group_rising : (role : Role) (run : Run) (l : ℕ) → Rising (group role run l)
group_rising role run l = those_rising (chosen role run l) 32

pub group_apart : (role : Role) (run : Run) (l : ℕ) → Apart (group role run l)
group_apart role run l = rising_apart (group role run l) (group_rising role run l)

-- what each role asks
abbrev pub Plays : Role → ℕ → Event → Type 0
Plays First l e = Initial e × (e.location ≡ l)
Plays Free l e = (e.kind ≡ 1) × ((e.settled ≡ false) × (e.location ≡ l))
Plays Last l e = (e.kind ≡ 1) × ((e.settled ≡ true) × (e.location ≡ l))

pub role_decided : (role : Role) (l : ℕ) (e : Event) → Decides (role_test role l e) (Plays role l e)
role_decided First l e = Decides-and (is_initial e) (eqb e.location l) (initial_decided e) (Decides-eqb e.location l)
role_decided Free l e =
    Decides-and (eqb e.kind 1) (not e.settled && eqb e.location l) (Decides-eqb e.kind 1)
    (Decides-and (not e.settled) (eqb e.location l) (not-true e.settled, not_from_false e.settled) (Decides-eqb e.location l))
role_decided Last l e =
    Decides-and (eqb e.kind 1) (e.settled && eqb e.location l) (Decides-eqb e.kind 1)
    (Decides-and e.settled (eqb e.location l) (λ h. h, λ h. h) (Decides-eqb e.location l))

chosen_decided : (role : Role) (run : Run) (l n : ℕ) → Decides (chosen role run l n) ((e : Event) × (run n ≡ Some e) × Plays role l e)
chosen_decided role run l n = holds_decided (run n) (role_test role l) (Plays role l) (role_decided role l)

-- a group has the events that play the role
pub group_in : (role : Role) (run : Run) (l n : ℕ) → In n (group role run l) → There run n (Plays role l)
group_in role run l n h =
    let t = those_in (chosen role run l) 32 n h in
    let d = (chosen_decided role run l n).0 t.1 in
    (d.0, (t.0, d.1), d.2)

pub group_has : (role : Role) (run : Run) (l n : ℕ) → There run n (Plays role l) → In n (group role run l)
group_has role run l n t = those_has (chosen role run l) 32 n t.1.0 ((chosen_decided role run l n).1 (t.0, t.1.1, t.2))

-- the group of the free writes
pub free_in : (run : Run) (l n : ℕ) → In n (group Free run l) → FreeOf run l n
free_in run l n h =
    let t = group_in Free run l n h in
    record { event = t.0; stands = t.1; writes = inl t.2.0; not_initial = λ i. omega (arith, i, t.2.0); unsettled = t.2.1.0; place = t.2.1.1 }

pub free_has : (run : Run) (l n : ℕ) → FreeOf run l n → In n (group Free run l)
free_has run l n f =
    let kind : f.event.kind ≡ 1 = ⊎_elim (λ e. e) (λ i. absurd (f.not_initial i)) f.writes in
    group_has Free run l n (f.event, f.stands, (kind, (f.unsettled, f.place)))

pub free_lines : (run : Run) (l : ℕ) → LinesUp (FreeOf run l) (group Free run l)
free_lines run l = record { apart = group_apart Free run l; only = free_in run l; all = free_has run l }

pub free_counts : (run : Run) (l : ℕ) → Counts (FreeOf run l) (length (group Free run l))
free_counts run l = record { items = group Free run l; apart = group_apart Free run l; only = free_in run l; all = free_has run l; long = refl }

-- the groups of the initial and the settled writes
pub first_in : (run : Run) (l n : ℕ) → In n (group First run l) → InitialOf run l n
first_in run l n h = let t = group_in First run l n h in record { event = t.0; stands = t.1; initial = t.2.0; place = t.2.1 }

pub first_has : (run : Run) (l n : ℕ) → InitialOf run l n → In n (group First run l)
first_has run l n i = group_has First run l n (i.event, i.stands, (i.initial, i.place))

pub last_in : (run : Run) (l n : ℕ) → In n (group Last run l) → SettledOf run l n
last_in run l n h = let t = group_in Last run l n h in record { event = t.0; stands = t.1; writes = inl t.2.0; settled = t.2.1.0; place = t.2.1.1 }

-- a write of any role is a write
pub initial_write : (run : Run) (l n : ℕ) → InitialOf run l n → WriteOf run l n
initial_write run l n i = record { event = i.event; stands = i.stands; writes = inr i.initial; place = i.place }

pub free_write : (run : Run) (l n : ℕ) → FreeOf run l n → WriteOf run l n
free_write run l n f = record { event = f.event; stands = f.stands; writes = f.writes; place = f.place }

pub settled_write : (run : Run) (l n : ℕ) → SettledOf run l n → WriteOf run l n
settled_write run l n s = record { event = s.event; stands = s.stands; writes = s.writes; place = s.place }

-- the groups have nothing in common
first_not_free : (run : Run) (l n : ℕ) → In n (group First run l) → FreeOf run l n → ⊥
first_not_free run l n h f =
    let i = first_in run l n h in
    f.not_initial (subst Initial (one_event run n i.event f.event i.stands f.stands) i.initial)

first_not_last : (run : Run) (l n : ℕ) → In n (group First run l) → In n (group Last run l) → ⊥
first_not_last run l n h k =
    let i = first_in run l n h in
    let t = group_in Last run l n k in
    let four = subst Initial (one_event run n i.event t.0 i.stands t.1) i.initial in
    omega (arith, four, t.2.0)

free_not_last : (run : Run) (l n : ℕ) → FreeOf run l n → In n (group Last run l) → ⊥
free_not_last run l n f k =
    let t = group_in Last run l n k in
    let up : f.event.settled ≡ true = subst (λ e. e.settled ≡ true) (one_event run n t.0 f.event t.1 f.stands) t.2.1.0 in
    both_ways f.event.settled f.unsettled up

-- the line of a location: its writes, the initial one first, a settled one last
pub record Line (run : Run) (l : ℕ) (xs : List ℕ) : Type 0 where
  pub apart : Apart xs
  pub only : (x : ℕ) → In x xs → WriteOf run l x
  pub all : (x : ℕ) → WriteOf run l x → In x xs
  pub first : (a b : ℕ) → InitialOf run l a → WriteOf run l b → (a ≡ b → ⊥) → Precedes xs a b
  pub last : (a b : ℕ) → WriteOf run l a → SettledOf run l b → (a ≡ b → ⊥) → Precedes xs a b

-- a write is initial, free, or settled
write_roles : (run : Run) (l : ℕ) (row : List ℕ) (x : ℕ) → LinesUp (FreeOf run l) row → WriteOf run l x → In x (line run l row)
write_roles run l row x r w =
    ⊎_elim
    (λ kind. ⊎_elim
    (λ up. in_right x (group First run l) _ (in_right x row _ (group_has Last run l x (w.event, w.stands, (kind, (up, w.place))))))
    (λ down. in_right x (group First run l) _ (in_left x row _ (r.all x (record { event = w.event; stands = w.stands; writes = w.writes; not_initial = λ i. omega (arith, i, kind); unsettled = down; place = w.place }))))
    (cases_Bool w.event.settled))
    (λ i. in_left x (group First run l) _ (group_has First run l x (w.event, w.stands, (i, w.place))))
    w.writes

pub line_writes : (run : Run) (l : ℕ) (row : List ℕ) (x : ℕ) → LinesUp (FreeOf run l) row → In x (line run l row) → WriteOf run l x
line_writes run l row x r h =
    ⊎_elim
    (λ k. initial_write run l x (first_in run l x k))
    (λ k. ⊎_elim (λ i. free_write run l x (r.only x i)) (λ i. settled_write run l x (last_in run l x i)) (in_append x row (group Last run l) k))
    (in_append x (group First run l) (row ++ group Last run l) h)

pub line_apart : (run : Run) (l : ℕ) (row : List ℕ) → LinesUp (FreeOf run l) row → Apart (line run l row)
line_apart run l row r =
    apart_append (group First run l) (row ++ group Last run l) (group_apart First run l)
    (apart_append row (group Last run l) r.apart (group_apart Last run l) (λ x h k. free_not_last run l x (r.only x h) k))
    (λ x h k. ⊎_elim (λ i. first_not_free run l x h (r.only x i)) (first_not_last run l x h) (in_append x row (group Last run l) k))

module _ (run : Run) (sound : Sound run) where
  -- a location has one initial write
  pub one_initial : (l a b : ℕ) → InitialOf run l a → InitialOf run l b → a ≡ b
  one_initial l a b i j = sound Initials b j.event j.stands j.initial a i.event i.stands i.initial (i.place ∙ sym j.place)

  -- and one settled write
  pub one_settled : (l a b : ℕ) → SettledOf run l a → SettledOf run l b → a ≡ b
  one_settled l a b s t = (sound Settlings b t.event t.stands t.settled).1 a s.event s.stands s.writes s.settled (s.place ∙ sym t.place)

  -- a settled initial write has no other beside it
  pub settled_initial : (l a b : ℕ) (w : WriteOf run l a) (s : SettledOf run l b) → Initial s.event → a ≡ b
  settled_initial l a b w s i = (sound Settlings b s.event s.stands s.settled).2 i a w.event w.stands w.writes (w.place ∙ sym s.place)

  -- a write's location is one of sixteen
  pub located : (l n : ℕ) → WriteOf run l n → l < 16
  located l n w = let le = (sound Ranges n w.event w.stands).located (inr w.writes) in omega (arith, le, w.place)

  line_first : (l : ℕ) (row : List ℕ) (a b : ℕ) → LinesUp (FreeOf run l) row → InitialOf run l a → WriteOf run l b → (a ≡ b → ⊥) → Precedes (line run l row) a b
  line_first l row a b r i w ne =
      ⊎_elim (λ k. absurd (ne (one_initial l a b i (first_in run l b k)))) (λ k. precedes_across (group First run l) (row ++ group Last run l) a b (first_has run l a i) k)
      (in_append b (group First run l) (row ++ group Last run l) (write_roles run l row b r w))

  line_last : (l : ℕ) (row : List ℕ) (a b : ℕ) → LinesUp (FreeOf run l) row → WriteOf run l a → SettledOf run l b → (a ≡ b → ⊥) → Precedes (line run l row) a b
  line_last l row a b r w s ne =
      ⊎_elim
      (λ kind.
      let here : In b (group Last run l) = group_has Last run l b (s.event, s.stands, (kind, (s.settled, s.place))) in
      let whole : line run l row ≡ (group First run l ++ row) ++ group Last run l = sym (append_assoc (group First run l) row (group Last run l)) in
      subst (λ xs. Precedes xs a b) (sym whole)
      (⊎_elim (λ k. precedes_across (group First run l ++ row) (group Last run l) a b k here) (λ k. absurd (ne (one_settled l a b (last_in run l a k) s)))
      (in_append a (group First run l ++ row) (group Last run l) (subst (λ xs. In a xs) whole (write_roles run l row a r w)))))
      (λ i. absurd (ne (settled_initial l a b w s i)))
      s.writes

  -- with its free writes in any row, the line of a location is one
  pub line_right : (l : ℕ) (row : List ℕ) → LinesUp (FreeOf run l) row → Line run l (line run l row)
  line_right l row r = record {
    apart = line_apart run l row r;
    only = λ x. line_writes run l row x r;
    all = λ x. write_roles run l row x r;
    first = λ a b. line_first l row a b r;
    last = λ a b. line_last l row a b r;
  }

  -- a coherence order has the line as it stands, if it has the row so
  pub line_sorted : (co : Order) (l : ℕ) (row : List ℕ) → Coherence run co → LinesUp (FreeOf run l) row → Sorted co row → Sorted co (line run l row)
  line_sorted co l row c r s =
      sorted_append co (group First run l) (row ++ group Last run l)
      (sorted_all co (group First run l) (group_apart First run l) (λ x y h k ne. c.first l x y (first_in run l x h) (initial_write run l y (first_in run l y k)) ne))
      (sorted_append co row (group Last run l) s
      (sorted_all co (group Last run l) (group_apart Last run l) (λ x y h k ne. c.last l x y (settled_write run l x (last_in run l x h)) (last_in run l y k) ne))
      (λ x y h k. c.last l x y (free_write run l x (r.only x h)) (last_in run l y k) (λ e. free_not_last run l y (subst (FreeOf run l) e (r.only x h)) k)))
      (λ x y h k. c.first l x y (first_in run l x h)
      (⊎_elim (λ i. free_write run l y (r.only y i)) (λ i. settled_write run l y (last_in run l y i)) (in_append y row (group Last run l) k))
      (λ e. ⊎_elim (λ i. first_not_free run l y (subst (λ z. In z (group First run l)) e h) (r.only y i)) (first_not_last run l y (subst (λ z. In z (group First run l)) e h)) (in_append y row (group Last run l) k)))
