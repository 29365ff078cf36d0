-- Operators on meanings: of one kind by the kind of their first operand. Assumes nothing.
use Rattle.relation.specs.Sets.{Events, Either, Both, Without, Outside}
use Rattle.relation.specs.Relations.{Pairs, Never, Union, Intersection, Difference, Complement, Sequence, Inverse, Product, Identity, Maybe, Path, Star}
use Rattle.relation.specs.Values.{Meaning, of_events, of_pairs}
use Rattle.sentence.specs.declared.sign.Post.{Post}
use Rattle.sentence.specs.declared.sign.Post.TheVariants as post
use Rattle.sentence.specs.declared.sign.Infix.{Infix}
use Rattle.sentence.specs.declared.sign.Infix.TheVariants as sign

-- the events of a set; a relation has none
abbrev pub events_of : Meaning → Events
events_of (of_events A) = A
events_of (of_pairs R) = λ n. ⊥

-- the pairs of a relation; a set has none
abbrev pub pairs_of : Meaning → Pairs
pairs_of (of_events A) = Never
pairs_of (of_pairs R) = R

-- two of one kind: what is in either, in both, in the first alone
abbrev pub either : Meaning → Meaning → Meaning
either (of_events A) m = of_events (Either A (events_of m))
either (of_pairs R) m = of_pairs (Union R (pairs_of m))

abbrev pub both : Meaning → Meaning → Meaning
both (of_events A) m = of_events (Both A (events_of m))
both (of_pairs R) m = of_pairs (Intersection R (pairs_of m))

abbrev pub without : Meaning → Meaning → Meaning
without (of_events A) m = of_events (Without A (events_of m))
without (of_pairs R) m = of_pairs (Difference R (pairs_of m))

-- what is not in it, within a universe
abbrev pub outside : Events → Meaning → Meaning
outside U (of_events A) = of_events (Outside U A)
outside U (of_pairs R) = of_pairs (Complement U R)

-- a sign between two operands
abbrev pub infixed : Infix → Meaning → Meaning → Meaning
infixed sign.Bar l r = either l r
infixed sign.Semicolon l r = of_pairs (Sequence (pairs_of l) (pairs_of r))
infixed sign.Backslash l r = without l r
infixed sign.Ampersand l r = both l r
infixed sign.Product l r = of_pairs (Product (events_of l) (events_of r))

-- a sign behind its operand, within a universe
abbrev pub postfixed : Events → Post → Meaning → Meaning
postfixed U post.Plus m = of_pairs (Path (pairs_of m))
postfixed U post.Closure m = of_pairs (Star U (pairs_of m))
postfixed U post.Question m = of_pairs (Maybe U (pairs_of m))
postfixed U post.Inverse m = of_pairs (Inverse (pairs_of m))

-- identity on a set
abbrev pub tested : Meaning → Meaning
tested m = of_pairs (Identity (events_of m))
