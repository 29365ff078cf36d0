-- The order and the sameness of meanings, and that the operators keep both. Assumes nothing.
use Rattle.std.specs.Prelude.{◌≡◌, ℕ, true, refl}
use Rattle.std.proofs.Common.{inl, inr, ⊎_elim}
use Rattle.relation.specs.Sets.{Events, SameEvents}
use Rattle.relation.specs.Relations.{Inside, SamePairs}
use Rattle.relation.specs.Values.{Meaning, of_events, of_pairs}
use Rattle.relation.specs.Steps.{path_within}
use Rattle.given.specs.Bases.{Same}
use Rattle.sentence.specs.declared.sign.Post.{Post}
use Rattle.sentence.specs.declared.sign.Post.TheVariants as post
use Rattle.sentence.specs.declared.sign.Infix.{Infix}
use Rattle.sentence.specs.declared.sign.Infix.TheVariants as sign
use Rattle.term.specs.Recursion.{denies_right}
use Rattle.meaning.specs.Operators.{events_of, pairs_of, either, both, without, outside, infixed, postfixed, tested}

-- of one kind, and the first within the second
abbrev pub Below : Meaning → Meaning → Type 0
Below (of_events A) (of_events B) = (n : ℕ) → A n → B n
Below (of_events A) (of_pairs R) = ⊥
Below (of_pairs R) (of_events A) = ⊥
Below (of_pairs R) (of_pairs S) = Inside R S

pub below_self : (m : Meaning) → Below m m
below_self (of_events A) = λ n x. x
below_self (of_pairs R) = λ a b x. x

pub same_below : (m n : Meaning) → Same m n → Below m n
same_below (of_events A) (of_events B) h = λ k. (h k).0
same_below (of_events A) (of_pairs R) h = h
same_below (of_pairs R) (of_events A) h = h
same_below (of_pairs R) (of_pairs S) h = λ a b. (h a b).0

pub same_above : (m n : Meaning) → Same m n → Below n m
same_above (of_events A) (of_events B) h = λ k. (h k).1
same_above (of_events A) (of_pairs R) h = h
same_above (of_pairs R) (of_events A) h = h
same_above (of_pairs R) (of_pairs S) h = λ a b. (h a b).1

pub below_same : (m n : Meaning) → Below m n → Below n m → Same m n
below_same (of_events A) (of_events B) h g = λ k. (h k, g k)
below_same (of_events A) (of_pairs R) h g = h
below_same (of_pairs R) (of_events A) h g = h
below_same (of_pairs R) (of_pairs S) h g = λ a b. (h a b, g a b)

pub below_trans : (l m n : Meaning) → Below l m → Below m n → Below l n
below_trans (of_events A) (of_events B) (of_events C) h g = λ k x. g k (h k x)
below_trans (of_events A) (of_events B) (of_pairs R) h g = g
below_trans (of_events A) (of_pairs R) n h g = absurd h
below_trans (of_pairs R) (of_events A) n h g = absurd h
below_trans (of_pairs R) (of_pairs S) (of_events A) h g = g
below_trans (of_pairs R) (of_pairs S) (of_pairs T) h g = λ a b x. g a b (h a b x)

pub same_self : (m : Meaning) → Same m m
same_self m = below_same m m (below_self m) (below_self m)

pub same_sym : (m n : Meaning) → Same m n → Same n m
same_sym m n h = below_same n m (same_above m n h) (same_below m n h)

pub same_trans : (l m n : Meaning) → Same l m → Same m n → Same l n
same_trans l m n h g = below_same l n (below_trans l m n (same_below l m h) (same_below m n g)) (below_trans n m l (same_above m n g) (same_above l m h))

-- the events and the pairs of the first are those of the second
pub events_below : (m n : Meaning) → Below m n → (k : ℕ) → events_of m k → events_of n k
events_below (of_events A) (of_events B) h k x = h k x
events_below (of_events A) (of_pairs R) h k x = absurd h
events_below (of_pairs R) (of_events A) h k x = absurd h
events_below (of_pairs R) (of_pairs S) h k x = x

pub pairs_below : (m n : Meaning) → Below m n → Inside (pairs_of m) (pairs_of n)
pairs_below (of_events A) (of_events B) h a b x = x
pairs_below (of_events A) (of_pairs R) h a b x = absurd h
pairs_below (of_pairs R) (of_events A) h a b x = absurd h
pairs_below (of_pairs R) (of_pairs S) h a b x = h a b x

-- the operators, each on what rises; what is taken away, and what is denied, falls
either_below : (l l' r r' : Meaning) → Below l l' → Below r r' → Below (either l r) (either l' r')
either_below (of_events A) (of_events B) r r' h g = λ k. ⊎_elim (λ x. inl (h k x)) (λ x. inr (events_below r r' g k x))
either_below (of_events A) (of_pairs R) r r' h g = h
either_below (of_pairs R) (of_events A) r r' h g = h
either_below (of_pairs R) (of_pairs S) r r' h g = λ a b. ⊎_elim (λ x. inl (h a b x)) (λ x. inr (pairs_below r r' g a b x))

both_below : (l l' r r' : Meaning) → Below l l' → Below r r' → Below (both l r) (both l' r')
both_below (of_events A) (of_events B) r r' h g = λ k x. (h k x.0, events_below r r' g k x.1)
both_below (of_events A) (of_pairs R) r r' h g = h
both_below (of_pairs R) (of_events A) r r' h g = h
both_below (of_pairs R) (of_pairs S) r r' h g = λ a b x. (h a b x.0, pairs_below r r' g a b x.1)

without_below : (l l' r r' : Meaning) → Below l l' → Below r' r → Below (without l r) (without l' r')
without_below (of_events A) (of_events B) r r' h g = λ k x. (h k x.0, λ y. x.1 (events_below r' r g k y))
without_below (of_events A) (of_pairs R) r r' h g = h
without_below (of_pairs R) (of_events A) r r' h g = h
without_below (of_pairs R) (of_pairs S) r r' h g = λ a b x. (h a b x.0, λ y. x.1 (pairs_below r' r g a b y))

pub infixed_below : (i : Infix) (l l' r r' : Meaning) → Below l l' → Below r r' → (denies_right i ≡ true → Below r' r) → Below (infixed i l r) (infixed i l' r')
infixed_below sign.Bar l l' r r' h g d = either_below l l' r r' h g
infixed_below sign.Semicolon l l' r r' h g d = λ a b x. (x.0, pairs_below l l' h a x.0 x.1, pairs_below r r' g x.0 b x.2)
infixed_below sign.Backslash l l' r r' h g d = without_below l l' r r' h (d refl)
infixed_below sign.Ampersand l l' r r' h g d = both_below l l' r r' h g
infixed_below sign.Product l l' r r' h g d = λ a b x. (events_below l l' h a x.0, events_below r r' g b x.1)

pub postfixed_below : (U : Events) (p : Post) (m n : Meaning) → Below m n → Below (postfixed U p m) (postfixed U p n)
postfixed_below U post.Plus m n h = λ a b x. path_within (pairs_below m n h) x
postfixed_below U post.Closure m n h = λ a b. ⊎_elim inl (λ x. inr (path_within (pairs_below m n h) x))
postfixed_below U post.Question m n h = λ a b. ⊎_elim inl (λ x. inr (pairs_below m n h a b x))
postfixed_below U post.Inverse m n h = λ a b x. pairs_below m n h b a x

pub outside_below : (U : Events) (m n : Meaning) → Below n m → Below (outside U m) (outside U n)
outside_below U (of_events A) (of_events B) h = λ k x. (x.0, λ y. x.1 (h k y))
outside_below U (of_events A) (of_pairs R) h = h
outside_below U (of_pairs R) (of_events A) h = h
outside_below U (of_pairs R) (of_pairs S) h = λ a b x. (x.0, x.1, λ y. x.2 (h a b y))

pub tested_below : (m n : Meaning) → Below m n → Below (tested m) (tested n)
tested_below m n h a b x = (events_below m n h a x.0, x.1)

-- the operators on what is the same
pub infixed_same : (i : Infix) (l l' r r' : Meaning) → Same l l' → Same r r' → Same (infixed i l r) (infixed i l' r')
infixed_same i l l' r r' h g =
    below_same (infixed i l r) (infixed i l' r')
    (infixed_below i l l' r r' (same_below l l' h) (same_below r r' g) (λ _. same_above r r' g))
    (infixed_below i l' l r' r (same_above l l' h) (same_above r r' g) (λ _. same_below r r' g))

pub postfixed_same : (U : Events) (p : Post) (m n : Meaning) → Same m n → Same (postfixed U p m) (postfixed U p n)
postfixed_same U p m n h =
    below_same (postfixed U p m) (postfixed U p n) (postfixed_below U p m n (same_below m n h)) (postfixed_below U p n m (same_above m n h))

pub outside_same : (U : Events) (m n : Meaning) → Same m n → Same (outside U m) (outside U n)
outside_same U m n h = below_same (outside U m) (outside U n) (outside_below U m n (same_above m n h)) (outside_below U n m (same_below m n h))

pub tested_same : (m n : Meaning) → Same m n → Same (tested m) (tested n)
tested_same m n h = below_same (tested m) (tested n) (tested_below m n (same_below m n h)) (tested_below n m (same_above m n h))

pub events_same : (m n : Meaning) → Same m n → SameEvents (events_of m) (events_of n)
events_same m n h k = (events_below m n (same_below m n h) k, events_below n m (same_above m n h) k)

pub pairs_same : (m n : Meaning) → Same m n → SamePairs (pairs_of m) (pairs_of n)
pairs_same m n h a b = (pairs_below m n (same_below m n h) a b, pairs_below n m (same_above m n h) a b)
