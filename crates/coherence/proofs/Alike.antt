-- Coherence orders and their numbers look at a run only below 32. Assumes nothing.
use Rattle.std.proofs.Common.{ℕ, List, sym, refl}
use Rattle.run.specs.Runs.{Run}
use Rattle.run.proofs.Same.{Alike, stands_same}
use Rattle.finite.specs.Counts.{Counts}
use Rattle.finite.proofs.Counts.{count_same}
use Rattle.coherence.specs.Perms.{LinesUp}
use Rattle.coherence.specs.Coherence.{FreeOf, Order, Coherence}
use Rattle.coherence.specs.Numbers.{Orders, Number}
use Rattle.coherence.specs.Laws.{OnlyBelow32}
use Rattle.coherence.proofs.Moved.{Goes, write_goes, initial_goes, settled_goes}

module _ (run other : Run) (same : Alike run other) where
  -- each event goes over as it is
  goes_same : Goes run other (λ n. n)
  goes_same n e s = (e, stands_same run other same n e s, record { kind = refl; location = refl; settled = refl })

  free_same : (l n : ℕ) → FreeOf run l n → FreeOf other l n
  free_same l n w = record { event = w.event; stands = stands_same run other same n w.event w.stands; writes = w.writes; not_initial = w.not_initial; unsettled = w.unsettled; place = w.place }

module _ (run other : Run) (there : Alike run other) (back : Alike other run) where
  coherence_same : (co : Order) → Coherence run co → Coherence other co
  coherence_same co c =
      let to : Goes run other (λ n. n) = goes_same run other there in
      let from : Goes other run (λ n. n) = goes_same other run back in
      record {
        only = λ a b h. let t = c.only a b h in (t.0, write_goes run other _ to t.0 a t.1, write_goes run other _ to t.0 b t.2);
        irreflexive = c.irreflexive;
        transitive = c.transitive;
        total = λ l a b w v. c.total l a b (write_goes other run _ from l a w) (write_goes other run _ from l b v);
        first = λ l a b w v. c.first l a b (initial_goes other run _ from l a w) (write_goes other run _ from l b v);
        last = λ l a b w v. c.last l a b (write_goes other run _ from l a w) (settled_goes other run _ from l b v);
      }

  free_count : (l n : ℕ) → Counts (FreeOf run l) n → Counts (FreeOf other l) n
  free_count l n = count_same (free_same run other there l) (free_same other run back l)

  orders_same : (n : ℕ) → Orders run n → Orders other n
  orders_same n o = record { free = o.free; frees = λ l lt. free_count l (o.free l) (o.frees l lt); value = o.value }

-- a row of the free writes of the one run is one of the other
lines_alike : (run other : Run) → Alike run other → Alike other run → (l : ℕ) (row : List ℕ) → LinesUp (FreeOf run l) row → LinesUp (FreeOf other l) row
lines_alike run other there back l row r = record { apart = r.apart; only = λ x h. free_same run other there l x (r.only x h); all = λ x f. r.all x (free_same other run back l x f) }

number_same : (run other : Run) → Alike run other → Alike other run → (co : Order) (n : ℕ) → Number run co n → Number other co n
number_same run other there back co n k = record {
  free = k.free;
  frees = λ l lt. free_count run other there back l (k.free l) (k.frees l lt);
  row = k.row;
  rows = λ l lt. record { lines = lines_alike run other there back l (k.row l) (k.rows l lt).lines; sorted = (k.rows l lt).sorted };
  digit = k.digit;
  digits = λ l lt. count_same (λ row h. (lines_alike run other there back l row h.0, h.1)) (λ row h. (lines_alike other run back there l row h.0, h.1)) (k.digits l lt);
  value = k.value;
}

pub alike_law : OnlyBelow32
alike_law run other same =
    let back : Alike other run = λ n lt. sym (same n lt) in
    record { coherence = coherence_same run other same back; number = number_same run other same back; product = orders_same run other same back }
