-- A renumbering of the events carries every operator along; the identity gives the plain congruence. Assumes nothing.
use Rattle.std.proofs.Common.{ℕ, ◌<◌, ◌↔◌, sym, refl, ap, ◌∙◌, subst, subst₂, inl, inr, ⊎_elim}
use mathlib.Core.Path.{subst⁻¹}
use Rattle.relation.specs.Sets.{Events, Either, Both, Without, SameEvents, Vacant}
use Rattle.relation.specs.Relations.{Pairs, Union, Intersection, Difference, Complement, Sequence, Inverse, Product, Identity, Maybe, Path, one, more, Star, Image, Range, Diagonal, SamePairs, Empty, Irreflexive, Acyclic}
use Rattle.relation.specs.Renumberings.{Renumbering, CarriedEvents, Carried, Renumbered}

-- numbers as they are
pub unchanged : Renumbering (λ n. n) (λ n. n)
unchanged = record { to = λ n l. l; fro = λ n l. l; there = λ n l. refl; back = λ n l. refl }

-- a renumbering undone
pub undone : {f g : ℕ → ℕ} → Renumbering f g → Renumbering g f
undone w = record { to = w.fro; fro = w.to; there = w.back; back = w.there }

-- sets with the same events are carried by numbers as they are
pub same_carried : {A B : Events} → ((n : ℕ) → A n → n < 32) → SameEvents A B → CarriedEvents (λ n. n) A B
same_carried bound h = record { bound = bound; bound' = λ n p. bound n ((h n).1 p); same = λ n l. h n }

-- and relations with the same pairs
pub same_pairs_carried : {R S : Pairs} → ((a b : ℕ) → R a b → (a < 32) × (b < 32)) → SamePairs R S → Carried (λ n. n) R S
same_pairs_carried bound h = record { bound = bound; bound' = λ a b p. bound a b ((h a b).1 p); same = λ a b l k. h a b }

-- both ends of a path are bounded
pub path_bound : {R : Pairs} → ((a b : ℕ) → R a b → (a < 32) × (b < 32)) → {a b : ℕ} → Path R a b → (a < 32) × (b < 32)
path_bound h (one r) = h _ _ r
path_bound h (more r p) = ((h _ _ r).0, (path_bound h p).1)

module _ {f g : ℕ → ℕ} (w : Renumbering f g) where
  -- an event of the renumbered set is one of the set
  pub from_event : {A A' : Events} → CarriedEvents f A A' → (n : ℕ) → A' n → A (g n)
  from_event {A} {A'} c n p = let l = c.bound' n p in (c.same (g n) (w.fro n l)).1 (subst⁻¹ A' (w.there n l) p)

  -- a pair of the renumbered relation is one of the relation
  pub from_pair : {R R' : Pairs} → Carried f R R' → (a b : ℕ) → R' a b → R (g a) (g b)
  from_pair {R} {R'} c a b p =
      let l = c.bound' a b p in
      (c.same (g a) (g b) (w.fro a l.0) (w.fro b l.1)).1 (subst₂ R' (sym (w.there a l.0)) (sym (w.there b l.1)) p)

  -- a relation renumbered and undone
  pub carried_back : {R R' : Pairs} → Carried f R R' → Carried g R' R
  carried_back {R} {R'} c =
      record {
        bound = c.bound';
        bound' = c.bound;
        same = λ a b l k. (from_pair c a b, λ p. subst₂ R' (w.there a l) (w.there b k) ((c.same (g a) (g b) (w.fro a l) (w.fro b k)).0 p));
      }

  module _ {A A' B B' : Events} (c : CarriedEvents f A A') (d : CarriedEvents f B B') where
    pub either_carried : CarriedEvents f (Either A B) (Either A' B')
    either_carried =
        record {
          bound = λ n. ⊎_elim (c.bound n) (d.bound n);
          bound' = λ n. ⊎_elim (c.bound' n) (d.bound' n);
          same = λ n l. (⊎_elim (λ p. inl ((c.same n l).0 p)) (λ p. inr ((d.same n l).0 p)), ⊎_elim (λ p. inl ((c.same n l).1 p)) (λ p. inr ((d.same n l).1 p)));
        }

    pub both_carried : CarriedEvents f (Both A B) (Both A' B')
    both_carried =
        record {
          bound = λ n p. c.bound n p.0;
          bound' = λ n p. c.bound' n p.0;
          same = λ n l. (λ p. ((c.same n l).0 p.0, (d.same n l).0 p.1), λ p. ((c.same n l).1 p.0, (d.same n l).1 p.1));
        }

    pub without_carried : CarriedEvents f (Without A B) (Without A' B')
    without_carried =
        record {
          bound = λ n p. c.bound n p.0;
          bound' = λ n p. c.bound' n p.0;
          same = λ n l. (λ p. ((c.same n l).0 p.0, λ q. p.1 ((d.same n l).1 q)), λ p. ((c.same n l).1 p.0, λ q. p.1 ((d.same n l).0 q)));
        }

    pub product_carried : Carried f (Product A B) (Product A' B')
    product_carried =
        record {
          bound = λ a b p. (c.bound a p.0, d.bound b p.1);
          bound' = λ a b p. (c.bound' a p.0, d.bound' b p.1);
          same = λ a b l k. (λ p. ((c.same a l).0 p.0, (d.same b k).0 p.1), λ p. ((c.same a l).1 p.0, (d.same b k).1 p.1));
        }

  module _ {A A' : Events} (c : CarriedEvents f A A') where
    pub identity_carried : Carried f (Identity A) (Identity A')
    identity_carried =
        record {
          bound = λ a b p. (c.bound a p.0, subst (λ n. n < 32) p.1 (c.bound a p.0));
          bound' = λ a b p. (c.bound' a p.0, subst (λ n. n < 32) p.1 (c.bound' a p.0));
          same = λ a b l k. (λ p. ((c.same a l).0 p.0, ap f p.1), λ p. ((c.same a l).1 p.0, sym (w.back a l) ∙ ap g p.1 ∙ w.back b k));
        }

    pub vacant_carried : Vacant A ↔ Vacant A'
    vacant_carried = (λ h n p. h (g n) (from_event c n p), λ h n p. h (f n) ((c.same n (c.bound n p)).0 p))

  module _ {R R' S S' : Pairs} (c : Carried f R R') (d : Carried f S S') where
    pub union_carried : Carried f (Union R S) (Union R' S')
    union_carried =
        record {
          bound = λ a b. ⊎_elim (c.bound a b) (d.bound a b);
          bound' = λ a b. ⊎_elim (c.bound' a b) (d.bound' a b);
          same = λ a b l k. (⊎_elim (λ p. inl ((c.same a b l k).0 p)) (λ p. inr ((d.same a b l k).0 p)), ⊎_elim (λ p. inl ((c.same a b l k).1 p)) (λ p. inr ((d.same a b l k).1 p)));
        }

    pub intersection_carried : Carried f (Intersection R S) (Intersection R' S')
    intersection_carried =
        record {
          bound = λ a b p. c.bound a b p.0;
          bound' = λ a b p. c.bound' a b p.0;
          same = λ a b l k. (λ p. ((c.same a b l k).0 p.0, (d.same a b l k).0 p.1), λ p. ((c.same a b l k).1 p.0, (d.same a b l k).1 p.1));
        }

    pub difference_carried : Carried f (Difference R S) (Difference R' S')
    difference_carried =
        record {
          bound = λ a b p. c.bound a b p.0;
          bound' = λ a b p. c.bound' a b p.0;
          same = λ a b l k. (λ p. ((c.same a b l k).0 p.0, λ q. p.1 ((d.same a b l k).1 q)), λ p. ((c.same a b l k).1 p.0, λ q. p.1 ((d.same a b l k).0 q)));
        }

    pub sequence_carried : Carried f (Sequence R S) (Sequence R' S')
    sequence_carried =
        record {
          bound = λ a b p. ((c.bound a p.0 p.1).0, (d.bound p.0 b p.2).1);
          bound' = λ a b p. ((c.bound' a p.0 p.1).0, (d.bound' p.0 b p.2).1);
          same = λ a b l k. (
            λ p. let m = (c.bound a p.0 p.1).1 in (f p.0, (c.same a p.0 l m).0 p.1, (d.same p.0 b m k).0 p.2),
            λ p.
                (g p.0, subst (λ n. R n (g p.0)) (w.back a l) (from_pair c (f a) p.0 p.1), subst (S (g p.0)) (w.back b k) (from_pair d p.0 (f b) p.2)),
          );
        }

  -- a path renumbered
  pub path_along : {R R' : Pairs} → Carried f R R' → {a b : ℕ} → Path R a b → Path R' (f a) (f b)
  path_along c (one r) = let l = c.bound _ _ r in one ((c.same _ _ l.0 l.1).0 r)
  path_along c (more r p) = let l = c.bound _ _ r in more ((c.same _ _ l.0 l.1).0 r) (path_along c p)

module _ {f g : ℕ → ℕ} (w : Renumbering f g) {R R' : Pairs} (c : Carried f R R') where
  pub inverse_carried : Carried f (Inverse R) (Inverse R')
  inverse_carried =
      record {
        bound = λ a b p. let l = c.bound b a p in (l.1, l.0);
        bound' = λ a b p. let l = c.bound' b a p in (l.1, l.0);
        same = λ a b l k. c.same b a k l;
      }

  pub path_carried : Carried f (Path R) (Path R')
  path_carried =
      record {
        bound = λ a b. path_bound c.bound;
        bound' = λ a b. path_bound c.bound';
        same = λ a b l k. (path_along w c, λ p. subst₂ (Path R) (w.back a l) (w.back b k) (path_along (undone w) (carried_back w c) p));
      }

  pub range_carried : CarriedEvents f (Range R) (Range R')
  range_carried =
      record {
        bound = λ n p. (c.bound p.0 n p.1).1;
        bound' = λ n p. (c.bound' p.0 n p.1).1;
        same = λ n l. (λ p. (f p.0, (c.same p.0 n (c.bound p.0 n p.1).0 l).0 p.1), λ p. (g p.0, subst (R (g p.0)) (w.back n l) (from_pair w c p.0 (f n) p.1)));
      }

  pub diagonal_carried : CarriedEvents f (Diagonal R) (Diagonal R')
  diagonal_carried = record { bound = λ n p. (c.bound n n p).0; bound' = λ n p. (c.bound' n n p).0; same = λ n l. c.same n n l l }

  pub empty_carried : Empty R ↔ Empty R'
  empty_carried =
      (λ h a b p. h (g a) (g b) (from_pair w c a b p), λ h a b p. let l = c.bound a b p in h (f a) (f b) ((c.same a b l.0 l.1).0 p))

  pub irreflexive_carried : Irreflexive R ↔ Irreflexive R'
  irreflexive_carried =
      (λ h a p. h (g a) (from_pair w c a a p), λ h a p. let l = c.bound a a p in h (f a) ((c.same a a l.0 l.1).0 p))

  module _ {A A' : Events} (d : CarriedEvents f A A') where
    pub complement_carried : Carried f (Complement A R) (Complement A' R')
    complement_carried =
        record {
          bound = λ a b p. (d.bound a p.0, d.bound b p.1);
          bound' = λ a b p. (d.bound' a p.0, d.bound' b p.1);
          same = λ a b l k. (λ p. ((d.same a l).0 p.0, (d.same b k).0 p.1, λ q. p.2 ((c.same a b l k).1 q)), λ p. ((d.same a l).1 p.0, (d.same b k).1 p.1, λ q. p.2 ((c.same a b l k).0 q)));
        }

    pub maybe_carried : Carried f (Maybe A R) (Maybe A' R')
    maybe_carried = union_carried w (identity_carried w d) c

    pub image_carried : CarriedEvents f (Image A R) (Image A' R')
    image_carried =
        record {
          bound = λ n p. (c.bound p.0 n p.2).1;
          bound' = λ n p. (c.bound' p.0 n p.2).1;
          same = λ n l. (λ p. let k = (c.bound p.0 n p.2).0 in (f p.0, (d.same p.0 k).0 p.1, (c.same p.0 n k l).0 p.2), λ p. (g p.0, from_event w d p.0 p.1, subst (R (g p.0)) (w.back n l) (from_pair w c p.0 (f n) p.2)));
        }

-- no cycle, renumbered
pub acyclic_carried : {f g : ℕ → ℕ} (w : Renumbering f g) {R R' : Pairs} → Carried f R R' → Acyclic R ↔ Acyclic R'
acyclic_carried w c = irreflexive_carried w (path_carried w c)

-- any number of steps, renumbered
pub star_carried : {f g : ℕ → ℕ} (w : Renumbering f g) {R R' : Pairs} → Carried f R R' → {A A' : Events} → CarriedEvents f A A' → Carried f (Star A R) (Star A' R')
star_carried w c d = union_carried w (identity_carried w d) (path_carried w c)

-- every operator and every check
pub all_carried : Renumbered
all_carried =
    record {
      either = λ f g w p p' q q'. either_carried w;
      both = λ f g w p p' q q'. both_carried w;
      without = λ f g w p p' q q'. without_carried w;
      outside = λ f g w p p' q q'. without_carried w;
      union = λ f g w r r' s s'. union_carried w;
      intersection = λ f g w r r' s s'. intersection_carried w;
      difference = λ f g w r r' s s'. difference_carried w;
      complement = λ f g w p p' r r' d c. complement_carried w c d;
      sequence = λ f g w r r' s s'. sequence_carried w;
      inverse = λ f g w r r'. inverse_carried w;
      product = λ f g w p p' q q'. product_carried w;
      identity = λ f g w p p'. identity_carried w;
      maybe = λ f g w p p' r r' d c. maybe_carried w c d;
      path = λ f g w r r'. path_carried w;
      star = λ f g w p p' r r' d c. star_carried w c d;
      image = λ f g w p p' r r' d c. image_carried w c d;
      range = λ f g w r r'. range_carried w;
      diagonal = λ f g w r r'. diagonal_carried w;
      vacant = λ f g w p p'. vacant_carried w;
      empty = λ f g w r r'. empty_carried w;
      irreflexive = λ f g w r r'. irreflexive_carried w;
      acyclic = λ f g w r r'. acyclic_carried w;
    }
