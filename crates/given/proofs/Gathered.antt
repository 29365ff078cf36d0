-- Sets gathered from a run by a test. Assumes nothing.
use Rattle.std.proofs.Common.{◌≡◌, Bool, Decides, sym, ◌∙◌}
use Rattle.std.proofs.lemmas.Bool.Decides.{Decides-eqb}
use Rattle.run.specs.declared.event.Event.{Event}
use Rattle.run.specs.Runs.{Run}
use Rattle.run.specs.Masks.{Gathered}
use Rattle.run.proofs.Rules.{holds_decided}
use Rattle.run.proofs.Gathering.{gathered_at}
use Rattle.relation.specs.Masks.{bit, Marks}
use Rattle.given.specs.Givens.{those}

-- where the test decides a fact, the mask shows the events of which it holds
pub gathered_marks : (answers : Event → Bool → Type 0) (run : Run) (test : Event → Bool) (P : Event → Type 0) {mask : _} → ((e : Event) (b : Bool) → answers e b → b ≡ test e) → ((e : Event) → Decides (test e) (P e)) → Gathered answers run mask → Marks mask (those run P)
gathered_marks answers run test P {mask} computes decides g =
    record {
      fits = g.fits;
      same = λ n. (
        λ m.
            let up = (Decides-eqb (bit mask n) 1).1 m.raised in
            let f = (holds_decided (run n) test P decides).0 (sym (gathered_at answers run test computes g n m.within) ∙ up) in
            (f.0, (m.within, f.1), f.2),
        λ h.
            let up = gathered_at answers run test computes g n h.1.0 ∙ (holds_decided (run n) test P decides).1 (h.0, h.1.1, h.2) in
            record { within = h.1.0; raised = (Decides-eqb (bit mask n) 1).0 up },
      );
    }
