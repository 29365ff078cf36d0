-- Sequences and joins, middle event by middle event. Assumes nothing.
use Rattle.std.specs.Prelude.{◌≡◌, ℕ, ◌+◌, ◌^◌, ◌<◌, ◌≤◌, ◌↔◌, List, length, slice_index}
use Rattle.std.proofs.Common.{subst, inl, inr, ⊎_elim, arith}
use Rattle.std.proofs.Math.Logic.Iff
use Rattle.std.proofs.lemmas.Bool.{cases_eq}
use Rattle.relation.specs.Sets.{Either, Gated}
use Rattle.relation.specs.Relations.{Pairs, Never, Union, Sequence, Inverse, Product, Path, one, more, Inside}
use Rattle.relation.specs.Masks.{Member, Related, Marks, Shows, Joined}
use Rattle.relation.specs.Marked.{marks_as}

-- rows show what has the same pairs
pub shows_as : {rows : List ℕ} (R S : Pairs) → Shows rows R → ((a b : ℕ) → R a b ↔ S a b) → Shows rows S
shows_as R S s h = record { long = s.long; fits = s.fits; same = λ a b. Iff.trans (s.same a b) (h a b) }

-- a row of the whole with the onward row behind its gate
pub through_row : (whole rows : List ℕ) (a middle onward w : ℕ) {v : ℕ} → a < 32 → Marks w (Gated (Member (slice_index rows a) middle) (Member onward)) → Marks v (Either (Member (slice_index whole a)) (Member w)) → Marks v (Union (Related whole) (Product (Inverse (Related rows) middle) (Member onward)) a)
through_row whole rows a middle onward w l g m =
    marks_as _ _ m
    (λ b. (⊎_elim (λ p. inl (record { within = l; there = p })) (λ p. let h = (g.same b).0 p in inr (record { within = l; there = h.0 }, h.1)), ⊎_elim (λ r. inl r.there) (λ r. inr ((g.same b).1 (r.0.there, r.1)))))

-- a step of the one, then one of the other, through a middle event below n
abbrev pub Through : ℕ → Pairs → Pairs → Pairs
Through n R S a c = (b : ℕ) × (b < n) × R a b × S b c

-- through no event
pub through_none : (R S : Pairs) {rows : List ℕ} → Shows rows Never → Shows rows (Through 0 R S)
through_none R S s = shows_as _ _ s (λ a c. (λ e. absurd e, λ h. let l = h.1 in omega arith))

-- through one more event
pub through_more : (n : ℕ) (xs ys : List ℕ) {rows rows' : List ℕ} → n < 32 → Shows rows (Through n (Related xs) (Related ys)) → Shows rows' (Union (Related rows) (Product (Inverse (Related xs) n) (Member (slice_index ys n)))) → Shows rows' (Through (n + 1) (Related xs) (Related ys))
through_more n xs ys l s t =
    shows_as _ _ t
    (λ a c. (
      ⊎_elim (λ old. let h = (s.same a c).0 old in (h.0, omega (arith, h.1), h.2, h.3)) (λ new. (n, omega arith, new.0, record { within = l; there = new.1 })),
      λ h.
          ⊎_elim
          (λ same. inr (subst (Related xs a) same h.2, (subst (λ k. Related ys k c) same h.3).there))
          (λ ne. inl ((s.same a c).1 (h.0, (let k = h.1 in omega arith), h.2, h.3)))
          (cases_eq h.0 n),
    ))

-- through every event
pub through_done : (n : ℕ) (xs ys : List ℕ) {rows : List ℕ} → 32 ≤ n → Shows rows (Through n (Related xs) (Related ys)) → Shows rows (Sequence (Related xs) (Related ys))
through_done n xs ys l s =
    shows_as _ _ s (λ a c. (λ h. (h.0, h.2, h.3), λ h. (h.0, omega (arith, h.2.within), h.1, h.2)))

-- one path after another
pub path_join : {R : Pairs} {a b c : ℕ} → Path R a b → Path R b c → Path R a c
path_join (one r) q = more r q
path_join (more r p) q = more r (path_join p q)

-- the rows after a join through the events below n
pub record Joining (n : ℕ) (R : Pairs) (rows : List ℕ) : Type 0 where
  pub long : 0 < n → length rows ≡ 32
  pub fits : 0 < n → (a : ℕ) → slice_index rows a < 2 ^ 32
  pub kept : Inside R (Related rows)
  pub joined : Inside (Through n R R) (Related rows)
  pub paths : Inside (Related rows) (Path R)

-- through no event
pub joining_none : (rows : List ℕ) → Joining 0 (Related rows) rows
joining_none rows =
    record { long = λ l. absurd (omega arith); fits = λ l. absurd (omega arith); kept = λ a b r. r; joined = λ a b h. (let l = h.1 in absurd (omega arith)); paths = λ a b r. one r }

-- through one more event
pub joining_more : (n : ℕ) (R : Pairs) {xs ys : List ℕ} → n < 32 → Joining n R xs → Shows ys (Union (Related xs) (Product (Inverse (Related xs) n) (Member (slice_index xs n)))) → Joining (n + 1) R ys
joining_more n R l j s =
    record {
      long = λ _. s.long;
      fits = λ _. s.fits;
      kept = λ a b r. (s.same a b).1 (inl (j.kept a b r));
      joined = λ a c h.
          ⊎_elim
          (λ same. (s.same a c).1 (inr (j.kept a n (subst (R a) same h.2), (j.kept n c (subst (λ k. R k c) same h.3)).there)))
          (λ ne. (s.same a c).1 (inl (j.joined a c (h.0, (let k = h.1 in omega arith), h.2, h.3))))
          (cases_eq h.0 n);
      paths = λ a b r. ⊎_elim (j.paths a b) (λ p. path_join (j.paths a n p.0) (j.paths n b (record { within = l; there = p.1 }))) ((s.same a b).0 r);
    }

-- through every event
pub joining_done : (n : ℕ) {xs ys : List ℕ} → 32 ≤ n → Joining n (Related xs) ys → Joined (Related xs) ys
joining_done n l j =
    record {
      long = j.long (omega arith);
      fits = j.fits (omega arith);
      kept = j.kept;
      joined = λ a c h. j.joined a c (h.0, omega (arith, h.2.within), h.1, h.2);
      paths = j.paths;
    }

-- a union of what rows relate
pub union_of : {xs ys rows : List ℕ} (R S : Pairs) → ((a b : ℕ) → Related xs a b ↔ R a b) → ((a b : ℕ) → Related ys a b ↔ S a b) → Shows rows (Union (Related xs) (Related ys)) → Shows rows (Union R S)
union_of R S s t u =
    shows_as _ _ u
    (λ a b. (⊎_elim (λ r. inl ((s a b).0 r)) (λ r. inr ((t a b).0 r)), ⊎_elim (λ r. inl ((s a b).1 r)) (λ r. inr ((t a b).1 r))))

-- paths of a relation are paths of a larger one
pub path_within : {R S : Pairs} → Inside R S → {a b : ℕ} → Path R a b → Path S a b
path_within h (one r) = one (h _ _ r)
path_within h (more r p) = more (h _ _ r) (path_within h p)

-- a relation with two of its steps in a row as one has all its paths
pub path_inside : {R S : Pairs} → Inside R S → Inside (Sequence S S) S → {a b : ℕ} → Path R a b → S a b
path_inside h t (one r) = h _ _ r
path_inside h t (more r p) = t _ _ (_, h _ _ r, path_inside h t p)

-- a join of what rows show
pub joined_as : {xs ys : List ℕ} (R : Pairs) → Shows xs R → Joined (Related xs) ys → Joined R ys
joined_as R s j =
    record {
      long = j.long;
      fits = j.fits;
      kept = λ a b r. j.kept a b ((s.same a b).1 r);
      joined = λ a c h. j.joined a c (h.0, (s.same a h.0).1 h.1, (s.same h.0 c).1 h.2);
      paths = λ a b r. path_within (λ x y q. (s.same x y).0 q) (j.paths a b r);
    }
