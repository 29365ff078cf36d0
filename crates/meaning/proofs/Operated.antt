-- What values mean, by their tags. Assumes nothing.
use Rattle.std.specs.Prelude.{◌≡◌, ℕ, List, refl}
use Rattle.std.proofs.Math.Path.{subst⁻¹}
use Rattle.std.proofs.Math.Logic.Iff
use Rattle.relation.specs.declared.value.Value.{Value}
use Rattle.relation.specs.declared.value.Kind.{Kind}
use Rattle.relation.specs.declared.value.Kind.TheVariants.{Events as is_events, Pairs as is_pairs}
use Rattle.relation.specs.Sets.{Events}
use Rattle.relation.specs.Relations.{Pairs, SamePairs, Path, Star, Maybe, Inverse}
use Rattle.sentence.specs.declared.sign.Post.{Post}
use Rattle.sentence.specs.declared.sign.Post.TheVariants as post
use Rattle.meaning.specs.Operators.{pairs_of, postfixed}
use Rattle.meaning.specs.Sameness.{postfixed_same}
use Rattle.relation.specs.Masks.{Member, Related, Shows}
use Rattle.relation.specs.Values.{Meaning, of_events, of_pairs, Means}
use Rattle.given.specs.Bases.{Same}
use Rattle.meaning.specs.Tables.{meaning_by, value_meaning}

-- what holds of the set in its mask holds of what a set means
pub by_events : (P : Meaning → Type 0) (v : Value) → v.kind ≡ is_events → P (of_events (Member v.mask)) → P (value_meaning v)
by_events P v e h = subst⁻¹ (λ k. P (meaning_by k v.mask v.rows)) e h

-- what holds of the relation in its rows holds of what a relation means
pub by_pairs : (P : Meaning → Type 0) (v : Value) → v.kind ≡ is_pairs → P (of_pairs (Related v.rows)) → P (value_meaning v)
by_pairs P v e h = subst⁻¹ (λ k. P (meaning_by k v.mask v.rows)) e h

-- a value that has a meaning means the same
pub means_same : (v : Value) (m : Meaning) → Means v m → Same (value_meaning v) m
means_same v (of_events A) h = by_events (λ m. Same m (of_events A)) v h.0 h.1
means_same v (of_pairs R) h = by_pairs (λ m. Same m (of_pairs R)) v h.0 h.1

-- and has every meaning that is the same
pub means_as : (v : Value) (m n : Meaning) → Means v m → Same m n → Means v n
means_as v (of_events A) (of_events B) h s = (h.0, λ k. Iff.trans (h.1 k) (s k))
means_as v (of_events A) (of_pairs R) h s = absurd s
means_as v (of_pairs R) (of_events A) h s = absurd s
means_as v (of_pairs R) (of_pairs S) h s = (h.0, λ a b. Iff.trans (h.1 a b) (s a b))

by_tag : (k : Kind) (v : Value) → v.kind ≡ k → Means v (meaning_by k v.mask v.rows)
by_tag is_events v e = (e, λ n. (λ x. x, λ x. x))
by_tag is_pairs v e = (e, λ a b. (λ x. x, λ x. x))

-- a value has the meaning that it means
pub means_self : (v : Value) → Means v (value_meaning v)
means_self v = by_tag v.kind v refl

-- a relation that was computed, for one with the same pairs
pub pairs_made : (v : Value) {rows : List ℕ} (R S : Pairs) → Means v (of_pairs (Related rows)) → Shows rows R → SamePairs R S → Means v (of_pairs S)
pairs_made v R S h s e = (h.0, λ a b. Iff.trans (h.1 a b) (Iff.trans (s.same a b) (e a b)))

-- a sign behind an operand, by the rows of a relation that has the operand's pairs
postfixed_at : (U : Events) (p : Post) (v : Value) {rows : List ℕ} (R : Pairs) (m : Meaning) → Means v (of_pairs (Related rows)) → Shows rows (pairs_of (postfixed U p (of_pairs R))) → SamePairs R (pairs_of m) → Means v (postfixed U p m)
postfixed_at U post.Plus v R m h s e = pairs_made v (Path R) (Path (pairs_of m)) h s (postfixed_same U post.Plus (of_pairs R) (of_pairs (pairs_of m)) e)
postfixed_at U post.Closure v R m h s e = pairs_made v (Star U R) (Star U (pairs_of m)) h s (postfixed_same U post.Closure (of_pairs R) (of_pairs (pairs_of m)) e)
postfixed_at U post.Question v R m h s e = pairs_made v (Maybe U R) (Maybe U (pairs_of m)) h s (postfixed_same U post.Question (of_pairs R) (of_pairs (pairs_of m)) e)
postfixed_at U post.Inverse v R m h s e = pairs_made v (Inverse R) (Inverse (pairs_of m)) h s (postfixed_same U post.Inverse (of_pairs R) (of_pairs (pairs_of m)) e)

pub postfixed_made : (U : Events) (p : Post) {q : Post} → q ≡ p → (v : Value) {rows : List ℕ} (R : Pairs) (m : Meaning) → Means v (of_pairs (Related rows)) → Shows rows (pairs_of (postfixed U p (of_pairs R))) → SamePairs R (pairs_of m) → Means v (postfixed U q m)
postfixed_made U p e v R m h s same = subst⁻¹ (λ q. Means v (postfixed U q m)) e (postfixed_at U p v R m h s same)
