use Rattle.std.proofs.Common.{◌≡◌, true, ◌&&◌, eqb, refl, rules}
use Rattle.std.proofs.lemmas.Bool.Decides.{Decides-eqb, Decides-and}
use Rattle.run.specs.Events.{Read, Write, Memory, Initial}
use Rattle.run.specs.Tests.{is_read, is_write, is_memory, is_initial}
use Rattle.run.proofs.Rules.{flag_decided, read_decided, write_decided, memory_decided, initial_decided}
use Rattle.given.proofs.Gathered.{gathered_marks}
use Rattle.given.proofs.Ordered.{base_made}
use Rattle.given.proofs.base.Base.of.Goals as goal

pub returns : goal.returns
returns c =
    base_made _ _
    (gathered_marks _ _ (λ e. true) (λ e. Unit {0}) (λ e b h. search rules) (λ e. (λ _. tt, λ _. refl)) c.gather.ensures)
    (gathered_marks _ _ is_read Read (λ e b h. search rules) read_decided c.gather-2.ensures)
    (gathered_marks _ _ is_write Write (λ e b h. search rules) write_decided c.gather-3.ensures)
    (gathered_marks _ _ (λ e. eqb e.kind 2) (λ e. e.kind ≡ 2) (λ e b h. search rules) (λ e. Decides-eqb e.kind 2) c.gather-4.ensures)
    (gathered_marks _ _ (λ e. eqb e.kind 3) (λ e. e.kind ≡ 3) (λ e b h. search rules) (λ e. Decides-eqb e.kind 3) c.gather-5.ensures)
    (gathered_marks _ _ is_memory Memory (λ e b h. search rules) memory_decided c.gather-6.ensures)
    (gathered_marks _ _ is_initial Initial (λ e b h. search rules) initial_decided c.gather-7.ensures)
    (gathered_marks _ _ (λ e. is_write e && e.settled) (λ e. Write e × (e.settled ≡ true)) (λ e b h. search rules) (λ e. Decides-and (is_write e) e.settled (write_decided e) (flag_decided e.settled)) c.gather-8.ensures)
    c.program_order.ensures c.reads_from.ensures c.same_location.ensures c.other_thread.ensures c.none.ensures
