-- Texts written over bytes, one behind another. Assumes nothing.
use Rattle.std.proofs.Common.{◌≡◌, ℕ, ◌+◌, ◌≤◌, List, [], ◌++◌, length, drop, sym, refl, ap, ◌∙◌, zero-add, arith, length-append}
use borrow.Rule.Slice.PartMut.{put_mid}
use lib.Seq.{paste}
use Rattle.std.proofs.lemmas.List.Edits.{paste_none, paste_all, paste-paste}
use Rattle.std.proofs.lemmas.Slice.{put_mid-paste}
use Rattle.record.specs.Writing.{pasted, Placed}

-- the same in the words of the shelf
in_shelf : (bytes : List ℕ) (at : ℕ) (text : List ℕ) → pasted bytes at text ≡ paste bytes at text (length text)
unfolding pasted
in_shelf bytes at text = sym (paste_all bytes at text (length text) refl)

-- a part that is written over
pub pasted_part : (bytes part text : List ℕ) (at size : ℕ) → part ≡ text → length text ≡ size → put_mid at size bytes part ≡ pasted bytes at text
pasted_part bytes part text at size is long = put_mid-paste at size bytes part text (length text) is long refl ∙ sym (in_shelf bytes at text)

-- with no text the bytes stay
pub pasted_none : (bytes : List ℕ) (at : ℕ) → pasted bytes at [] ≡ bytes
pasted_none bytes at = in_shelf bytes at [] ∙ sym (paste_none bytes at [])

-- two texts, one behind the other, are their join
pub pasted_more : (bytes : List ℕ) (at : ℕ) (text more : List ℕ) → at ≤ length bytes → pasted (pasted bytes at text) (at + length text) more ≡ pasted bytes at (text ++ more)
pasted_more bytes at text more within =
    in_shelf (pasted bytes at text) (at + length text) more
    ∙ ap (λ b. paste b (at + length text) more (length more)) (in_shelf bytes at text)
    ∙ paste-paste bytes at text more (length text) (length more) refl refl within
    ∙ ap (paste bytes at (text ++ more)) (sym (length-append text more))
    ∙ sym (in_shelf bytes at (text ++ more))

-- a text at the start, and the bytes past it
pub pasted_first : (bytes text : List ℕ) → pasted bytes 0 text ≡ text ++ drop (length text) bytes
unfolding pasted
pasted_first bytes text = rw zero-add

-- where nothing is written
pub placed_none : (bytes : List ℕ) (at : ℕ) → Placed bytes at [] at bytes
placed_none bytes at = record { stands = sym (pasted_none bytes at); behind = omega arith }

-- one text behind another
pub placed_on : (before : List ℕ) (from : ℕ) (text : List ℕ) (at : ℕ) (mid more : List ℕ) (next : ℕ) (after : List ℕ) → from ≤ length before → Placed before from text at mid →
    Placed mid at more next after → Placed before from (text ++ more) next after
placed_on before from text at mid more next after within p q =
    record {
      stands = q.stands ∙ ap (λ b. pasted b at more) p.stands ∙ ap (λ k. pasted (pasted before from text) k more) p.behind ∙ pasted_more before from text more within;
      behind = omega (arith, p.behind, q.behind, length-append text more);
    }
