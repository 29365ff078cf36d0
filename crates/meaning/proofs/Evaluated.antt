-- The value of a term by its shape, and names by their numbers. Assumes nothing.
use Rattle.std.specs.Prelude.{◌≡◌, ℕ, zero, suc, ◌-◌, ◌<◌, ◌≤◌, List, [], ◌∷◌, ◌++◌, map, length, get_or, slice_index_or, refl}
use Rattle.std.proofs.Common.{◌∙◌, ap, subst, ⊎_elim, arith}
use Rattle.std.proofs.Math.Path.{subst⁻¹}
use Rattle.std.proofs.lemmas.List.{length-map, get_or_past}
use Rattle.std.proofs.lemmas.Bool.{cases_lt}
use Rattle.relation.specs.declared.relation.Relation.{Relation}
use Rattle.relation.specs.declared.value.Value.{Value}
use Rattle.relation.specs.Relations.{Never}
use Rattle.meaning.specs.Rising.{never, past_at}
use Rattle.relation.specs.Masks.{Related, Shows}
use Rattle.relation.specs.Values.{Meaning, of_pairs, Means}
use Rattle.term.specs.declared.term.Given.{Given}
use Rattle.term.specs.declared.term.Given.TheVariants.{Universe}
use Rattle.term.specs.Terms.{Term, Post, Infix, given, bound, unbound, test, complement, ended, joined}
use Rattle.meaning.specs.Operators.{events_of, outside, infixed, postfixed, tested}
use Rattle.meaning.specs.Meanings.{Base, meaning}
use Rattle.meaning.specs.Tables.{value_meaning, relation_meaning}
use Rattle.given.specs.Bases.{Same}
use Rattle.meaning.specs.Sameness.{same_self, infixed_same, postfixed_same, outside_same, tested_same}
use Rattle.meaning.proofs.Operated.{means_self, means_same, means_as, pairs_made}

-- a term means the same where its names do
pub meaning_same : (base : Base) (ns ms : List Meaning) → ((i : ℕ) → Same (slice_index_or ns i never) (slice_index_or ms i never)) → (t : Term) → Same (meaning base ns t) (meaning base ms t)
unfolding meaning
meaning_same base ns ms h (given g) = same_self (base g)
meaning_same base ns ms h (bound k i) = h i
meaning_same base ns ms h (unbound k) = same_self never
meaning_same base ns ms h (test k t) = tested_same (meaning base ns t) (meaning base ms t) (meaning_same base ns ms h t)
meaning_same base ns ms h (complement t) = outside_same (events_of (base Universe)) (meaning base ns t) (meaning base ms t) (meaning_same base ns ms h t)
meaning_same base ns ms h (ended k p t) = postfixed_same (events_of (base Universe)) p (meaning base ns t) (meaning base ms t) (meaning_same base ns ms h t)
meaning_same base ns ms h (joined k i l r) =
    infixed_same i (meaning base ns l) (meaning base ms l) (meaning base ns r) (meaning base ms r) (meaning_same base ns ms h l) (meaning_same base ns ms h r)

-- a name that is known
pub known_at : (vs : List Value) (ms : List Meaning) (i : ℕ) (d : Value) → i < length vs → Means (slice_index_or vs i d) (slice_index_or (map value_meaning vs ++ ms) i never)
known_at [] ms i d l = absurd (omega arith)
known_at (v ∷ vs) ms zero d l = means_self v
known_at (v ∷ vs) ms (suc i) d l = known_at vs ms i d (omega arith)

-- a name behind those that are known
pub append_at : (xs ys : List Meaning) (i : ℕ) → length xs ≤ i → slice_index_or (xs ++ ys) i never ≡ slice_index_or ys (i - length xs) never
append_at [] ys i l = ap (λ k. get_or ys k never) (let z : i ≡ i - 0 = omega arith in z)
append_at (x ∷ xs) ys zero l = absurd (omega arith)
append_at (x ∷ xs) ys (suc i) l = append_at xs ys i (omega arith) ∙ ap (λ k. get_or ys k never) (let z : i - length xs ≡ suc i - suc (length xs) = omega arith in z)

-- a relation that is found
pub found_at : (rs : List Relation) (n : ℕ) (d : Relation) → n < length rs → slice_index_or (map relation_meaning rs) n never ≡ relation_meaning (slice_index_or rs n d)
found_at [] n d l = absurd (omega arith)
found_at (r ∷ rs) zero d l = refl
found_at (r ∷ rs) (suc n) d l = found_at rs n d (omega arith)

-- the value of a relation that is found
pub found_means : (v : Value) (vs : List Value) (rs : List Relation) (i : ℕ) (d : Relation) → length vs ≤ i → i - length vs < length rs → Means v (relation_meaning (slice_index_or rs (i - length vs) d)) → Means v (slice_index_or (map value_meaning vs ++ map relation_meaning rs) i never)
found_means v vs rs i d l k h =
    let e = length-map vs value_meaning in
    subst⁻¹ (Means v)
    (append_at (map value_meaning vs) (map relation_meaning rs) i (omega (arith, e)) ∙ ap (λ n. get_or (map relation_meaning rs) (i - n) never) e ∙ found_at rs (i - length vs) d k)
    h

-- the value of a name that is neither
pub nothing_means : (v : Value) {rows : List ℕ} (vs : List Value) (rs : List Relation) (i : ℕ) → length vs ≤ i → length rs ≤ i - length vs → Means v (of_pairs (Related rows)) → Shows rows Never → Means v (slice_index_or (map value_meaning vs ++ map relation_meaning rs) i never)
nothing_means v vs rs i l k h s =
    let e = length-map vs value_meaning in
    subst⁻¹ (Means v)
    (append_at (map value_meaning vs) (map relation_meaning rs) i (omega (arith, e)) ∙ ap (λ n. get_or (map relation_meaning rs) (i - n) never) e ∙ past_at (map relation_meaning rs) (i - length vs) (omega (arith, length-map rs relation_meaning)))
    (pairs_made v Never Never h s (λ a b. (λ x. x, λ x. x)))

-- the value of a name behind those that are known
pub behind_means : (v : Value) (vs : List Value) (rs : List Relation) (i : ℕ) (d : Relation) → length vs ≤ i → Shows d.rows Never → Means v (relation_meaning (slice_index_or rs (i - length vs) d)) → Means v (slice_index_or (map value_meaning vs ++ map relation_meaning rs) i never)
behind_means v vs rs i d l s h =
    ⊎_elim
    (λ k. found_means v vs rs i d l k h)
    (λ k. nothing_means v {rows = d.rows} vs rs i l k (subst (λ r. Means v (relation_meaning r)) (get_or_past rs (i - length vs) d k) h) s)
    (cases_lt (i - length vs) (length rs))

module _ (base : Base) (names : List Meaning) (r : Value) {u : Term} where
  -- the term is known by its shape
  shaped : {t : Term} → u ≡ t → Means r (meaning base names t) → Means r (meaning base names u)
  shaped e h = subst⁻¹ (λ t. Means r (meaning base names t)) e h

  pub given_means : {g : Given} → u ≡ given g → Means r (base g) → Means r (meaning base names u)
  unfolding meaning
  given_means e h = shaped e h

  pub bound_means : {k i : ℕ} → u ≡ bound k i → Means r (slice_index_or names i never) → Means r (meaning base names u)
  unfolding meaning
  bound_means e h = shaped e h

  pub unbound_means : {k : ℕ} {rows : List ℕ} → u ≡ unbound k → Means r (of_pairs (Related rows)) → Shows rows Never → Means r (meaning base names u)
  unfolding meaning
  unbound_means e h s = shaped e (pairs_made r Never Never h s (λ a b. (λ x. x, λ x. x)))

  pub test_means : {k : ℕ} {t : Term} (v : Value) → u ≡ test k t → Means v (meaning base names t) → Means r (tested (value_meaning v)) → Means r (meaning base names u)
  unfolding meaning
  test_means {t = t} v e m h = shaped e (means_as r (tested (value_meaning v)) (tested (meaning base names t)) h (tested_same (value_meaning v) (meaning base names t) (means_same v (meaning base names t) m)))

  pub complement_means : {t : Term} (v : Value) → u ≡ complement t → Means v (meaning base names t) → Means r (outside (events_of (base Universe)) (value_meaning v)) → Means r (meaning base names u)
  unfolding meaning
  complement_means {t} v e m h =
      let U = events_of (base Universe) in
      shaped e (means_as r (outside U (value_meaning v)) (outside U (meaning base names t)) h (outside_same U (value_meaning v) (meaning base names t) (means_same v (meaning base names t) m)))

  pub ended_means : {k : ℕ} {p : Post} {t : Term} (v : Value) → u ≡ ended k p t → Means v (meaning base names t) → Means r (postfixed (events_of (base Universe)) p (value_meaning v)) → Means r (meaning base names u)
  unfolding meaning
  ended_means {p = p} {t} v e m h =
      let U = events_of (base Universe) in
      shaped e (means_as r (postfixed U p (value_meaning v)) (postfixed U p (meaning base names t)) h (postfixed_same U p (value_meaning v) (meaning base names t) (means_same v (meaning base names t) m)))

  pub joined_means : {k : ℕ} {i : Infix} {s t : Term} (v w : Value) → u ≡ joined k i s t → Means v (meaning base names s) → Means w (meaning base names t) → Means r (infixed i (value_meaning v) (value_meaning w)) → Means r (meaning base names u)
  unfolding meaning
  joined_means {i = i} {s} {t} v w e m n h =
      shaped e
      (means_as r (infixed i (value_meaning v) (value_meaning w)) (infixed i (meaning base names s) (meaning base names t)) h
      (infixed_same i (value_meaning v) (meaning base names s) (value_meaning w) (meaning base names t) (means_same v (meaning base names s) m) (means_same w (meaning base names t) n)))
