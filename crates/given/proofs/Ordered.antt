-- The order that rows show, as pairs. Assumes nothing.
use Rattle.std.proofs.Common.{◌≡◌, ℕ, ◌/◌, ◌%◌, ◌^◌, ◌<◌, true, List, Decides, get_or, ⊎_elim, arith}
use mathlib.Core.Path.{subst⁻¹}
use Rattle.std.proofs.lemmas.Nat.Bits.{bit_at_above}
use Rattle.std.proofs.lemmas.Bool.{cases_lt, false≢true}
use Rattle.std.proofs.lemmas.Bool.Decides.{Decides-eqb}
use Rattle.run.specs.Events.{Read, Write, Memory, Initial}
use Rattle.run.specs.Runs.{Run}
use Rattle.relation.specs.Sets.{Events, SameEvents}
use Rattle.relation.specs.Relations.{Never, Identity, SamePairs}
use Rattle.relation.specs.Masks.{bit, Related, Marks, Shows}
use Rattle.coherence.specs.Coherence.{Order}
use Rattle.coherence.specs.Masks.{has, Shown}
use Rattle.term.specs.declared.term.Given.TheVariants as goal
use Rattle.given.specs.declared.base.Base.{Base}
use Rattle.given.specs.Givens.{those, program_order, reads_from, same_location, other_thread, ordered}
use Rattle.given.specs.Bases.{BaseOf}
use Rattle.given.specs.Orders.{no_order, Reordered}

-- a row of 32 bits has no bit from 32 on
pub bit_low : (x n : ℕ) → x < 2 ^ 32 → bit x n ≡ 1 → n < 32
bit_low x n fits up =
    ⊎_elim (λ l. l) (λ ge. let none = bit_at_above x 32 n fits ge in absurd (omega (arith, none, up))) (cases_lt n 32)

-- the test of a bit decides that it is up
has_decided : (x n : ℕ) → Decides (has x n) (bit x n ≡ 1)
unfolding has
has_decided x n = Decides-eqb (x / 2 ^ n % 2) 1

-- rows of 32 bits have the pairs of the order that they show
pub shown_pairs : (rows : List ℕ) (co : Order) → ((a : ℕ) → get_or rows a 0 < 2 ^ 32) → Shown rows co → SamePairs (Related rows) (ordered co)
shown_pairs rows co fits s a b = (
  λ r. (s.bits a b).1 (r.within, (has_decided (get_or rows a 0) b).1 r.there.raised),
  λ h. let t = (s.bits a b).0 h in let up = (has_decided (get_or rows a 0) b).0 t.1 in record { within = t.0; there = record { within = bit_low (get_or rows a 0) b (fits a) up; raised = up } },
)

-- no pair is in the order with no pair
pub never_ordered : (rows : List ℕ) → Shows rows Never → SamePairs (Related rows) (ordered no_order)
never_ordered rows s a b = (λ r. absurd ((s.same a b).0 r), λ h. absurd (false≢true h))

-- sets with the same events have the same identity
identity_same : (A B : Events) → SameEvents A B → SamePairs (Identity A) (Identity B)
identity_same A B s a b = (λ h. ((s a).0 h.0, h.1), λ h. ((s a).1 h.0, h.1))

-- what shows each class and each bond of a run is its data under no order
pub base_made :
    (run : Run) (b : Base)
    → Marks b.universe (those run (λ e. Unit {0}))
    → Marks b.reads (those run Read)
    → Marks b.writes (those run Write)
    → Marks b.fences (those run (λ e. e.kind ≡ 2))
    → Marks b.branches (those run (λ e. e.kind ≡ 3))
    → Marks b.memory (those run Memory)
    → Marks b.initial (those run Initial)
    → Marks b.settled (those run (λ e. Write e × (e.settled ≡ true)))
    → Shows b.program_order.rows (program_order run)
    → Shows b.reads_from.rows (reads_from run)
    → Shows b.same_location.rows (same_location run)
    → Shows b.other_thread.rows (other_thread run)
    → Shows b.coherence.rows Never
    → BaseOf run no_order b
base_made run b u r w f br m i s po rf loc ext co goal.Universe = u.same
base_made run b u r w f br m i s po rf loc ext co goal.NoPairs = λ x y. (λ h. h, λ h. h)
base_made run b u r w f br m i s po rf loc ext co goal.NoEvents = λ x. (λ h. h, λ h. h)
base_made run b u r w f br m i s po rf loc ext co goal.Reads = r.same
base_made run b u r w f br m i s po rf loc ext co goal.Writes = w.same
base_made run b u r w f br m i s po rf loc ext co goal.Fences = f.same
base_made run b u r w f br m i s po rf loc ext co goal.Branches = br.same
base_made run b u r w f br m i s po rf loc ext co goal.Memory = m.same
base_made run b u r w f br m i s po rf loc ext co goal.Initial = i.same
base_made run b u r w f br m i s po rf loc ext co goal.Settled = s.same
base_made run b u r w f br m i s po rf loc ext co goal.ProgramOrder = po.same
base_made run b u r w f br m i s po rf loc ext co goal.ReadsFrom = rf.same
base_made run b u r w f br m i s po rf loc ext co goal.SameLocation = loc.same
base_made run b u r w f br m i s po rf loc ext co goal.OtherThread = ext.same
base_made run b u r w f br m i s po rf loc ext co goal.Identity = identity_same _ _ u.same
base_made run b u r w f br m i s po rf loc ext co goal.Coherence = never_ordered b.coherence.rows co

-- data with other rows for the order
abbrev pub with_rows : Base → List ℕ → Base
with_rows b rows =
    record {
      universe = b.universe;
      reads = b.reads;
      writes = b.writes;
      fences = b.fences;
      branches = b.branches;
      memory = b.memory;
      initial = b.initial;
      settled = b.settled;
      program_order = b.program_order;
      reads_from = b.reads_from;
      same_location = b.same_location;
      other_thread = b.other_thread;
      coherence = record { rows = rows };
    }

-- where these are the rows of an order, the data are those of the run under it
pub reordered : (b : Base) (order rows : List ℕ) → ((a : ℕ) → get_or order a 0 < 2 ^ 32) → rows ≡ order → Reordered b order (with_rows b rows)
reordered b order rows fits same run before co h s goal.Universe = h goal.Universe
reordered b order rows fits same run before co h s goal.NoPairs = h goal.NoPairs
reordered b order rows fits same run before co h s goal.NoEvents = h goal.NoEvents
reordered b order rows fits same run before co h s goal.Reads = h goal.Reads
reordered b order rows fits same run before co h s goal.Writes = h goal.Writes
reordered b order rows fits same run before co h s goal.Fences = h goal.Fences
reordered b order rows fits same run before co h s goal.Branches = h goal.Branches
reordered b order rows fits same run before co h s goal.Memory = h goal.Memory
reordered b order rows fits same run before co h s goal.Initial = h goal.Initial
reordered b order rows fits same run before co h s goal.Settled = h goal.Settled
reordered b order rows fits same run before co h s goal.ProgramOrder = h goal.ProgramOrder
reordered b order rows fits same run before co h s goal.ReadsFrom = h goal.ReadsFrom
reordered b order rows fits same run before co h s goal.SameLocation = h goal.SameLocation
reordered b order rows fits same run before co h s goal.OtherThread = h goal.OtherThread
reordered b order rows fits same run before co h s goal.Identity = h goal.Identity
reordered b order rows fits same run before co h s goal.Coherence = subst⁻¹ (λ r. SamePairs (Related r) (ordered co)) same (shown_pairs order co fits s)
