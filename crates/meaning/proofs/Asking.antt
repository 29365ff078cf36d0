-- What checks ask of meanings that are the same. Assumes nothing.
use Rattle.std.proofs.Common.{Bool, true, false, not, List, [], ◌++◌, Decides, subst}
use Rattle.std.specs.Bool.{beq}
use Rattle.std.proofs.lemmas.List.{append-nil}
use Rattle.std.proofs.lemmas.Bool.Decides.{Decides-like, Decides-not}
use Rattle.relation.specs.declared.value.Value.{Value}
use Rattle.relation.specs.Relations.{Pairs, SamePairs}
use Rattle.relation.specs.Values.{Meaning, of_events, of_pairs, Means}
use Rattle.relation.specs.Steps.{path_within}
use Rattle.term.specs.Statements.{Claim, Word, acyclic, irreflexive, empty}
use Rattle.given.specs.Bases.{Same}
use Rattle.meaning.specs.Meanings.{Base, meaning}
use Rattle.meaning.specs.Checks.{Nothing, Asked, Turned}
use Rattle.meaning.specs.Tables.{value_meaning}
use Rattle.meaning.specs.Outcomes.{Good}
use Rattle.meaning.specs.Sameness.{same_sym, same_above, pairs_below}
use Rattle.meaning.proofs.Operated.{means_same}
use Rattle.meaning.proofs.Evaluated.{meaning_same}
use Rattle.meaning.proofs.Knowing.{SameAll, same_all_at}

nothing_as : (m n : Meaning) → Same m n → Nothing m → Nothing n
nothing_as (of_events A) (of_events B) s h = λ k x. h k ((s k).1 x)
nothing_as (of_events A) (of_pairs R) s h = absurd s
nothing_as (of_pairs R) (of_events A) s h = absurd s
nothing_as (of_pairs R) (of_pairs S) s h = λ a b x. h a b ((s a b).1 x)

-- what is asked of one is asked of the other
pub asked_as : (w : Word) (m n : Meaning) → Same m n → Asked w m → Asked w n
asked_as acyclic m n s h = λ a p. h a (path_within (pairs_below n m (same_above m n s)) p)
asked_as irreflexive m n s h = λ a p. h a (pairs_below n m (same_above m n s) a a p)
asked_as empty m n s h = nothing_as m n s h

turned_as : (b : Bool) {P Q : Type 0} → (P → Q) → (Q → P) → Turned b P → Turned b Q
turned_as true f g h = λ q. h (g q)
turned_as false f g h = f h

-- what is asked, turned where it is negated
turned_asked : (b r : Bool) (P : Type 0) → Decides r P → Decides (not (beq r b)) (Turned b P)
turned_asked true true P d = Decides-not true d
turned_asked true false P d = Decides-not false d
turned_asked false true P d = d
turned_asked false false P d = d

-- a check that is good under some meanings is good under the same
pub good_as : (base : Base) (ks js : List Meaning) → SameAll ks js → (c : Claim) → Good base ks c → Good base js c
good_as base ks js h c g =
    let m = meaning base ks c.term in
    let n = meaning base js c.term in
    let s = meaning_same base ks js (same_all_at ks js h) c.term in
    turned_as c.negated (asked_as c.word m n s) (asked_as c.word n m (same_sym m n s)) g

-- what is asked of a relation's pairs
pub pairs_asked : (w : Word) (r : Bool) (R S : Pairs) → SamePairs R S → Decides r (Asked w (of_pairs R)) → Decides r (Asked w (of_pairs S))
pairs_asked w r R S s d = Decides-like r (asked_as w (of_pairs R) (of_pairs S) s) (asked_as w (of_pairs S) (of_pairs R) (λ a b. ((s a b).1, (s a b).0))) d

module _ (base : Base) (known : List Meaning) (c : Claim) (v : Value) (r : Bool) (m : Means v (meaning base (known ++ []) c.term)) (d : Decides r (Asked c.word (value_meaning v))) where
  -- what is asked of the term's value is asked of the term
  term_asked : Decides r (Asked c.word (meaning base known c.term))
  term_asked =
      let n = meaning base known c.term in
      let s = means_same v n (subst (λ ks. Means v (meaning base ks c.term)) (append-nil known) m) in
      Decides-like r (asked_as c.word (value_meaning v) n s) (asked_as c.word n (value_meaning v) (same_sym (value_meaning v) n s)) d

  -- what is asked of a check
  pub good_asked : Decides (not (beq r c.negated)) (Good base known c)
  good_asked = turned_asked c.negated r (Asked c.word (meaning base known c.term)) term_asked
