-- Tables of values that mean what bindings mean. Assumes nothing.
use Rattle.std.proofs.Common.{◌≡◌, ℕ, zero, suc, ◌+◌, ◌<◌, ◌≤◌, min, List, [], ◌∷◌, ◌++◌, map, length, get_or, take, sym, refl, ap, ◌∙◌, subst, append_assoc, arith}
use mathlib.Core.Path.{subst⁻¹}
use lib.ListN.{length-map}
use Rattle.std.proofs.lemmas.List.{append-nil, take_more, take_all, map-append, length-append, length-take-le}
use Rattle.relation.specs.declared.relation.Relation.{Relation}
use Rattle.relation.specs.declared.value.Value.{Value}
use Rattle.relation.specs.Relations.{Pairs, SamePairs}
use Rattle.relation.specs.Values.{Meaning, Means}
use Rattle.term.specs.Statements.{Binding, Claim, Statement, lets, groups, checks}
use Rattle.term.specs.Recursion.{binds}
use Rattle.given.specs.declared.base.Base as given_base
use Rattle.given.specs.Bases.{Same, base_meaning}
use Rattle.meaning.specs.Meanings.{Base, meaning}
use Rattle.meaning.specs.Groups.{told, as_meanings, Solves, least, known_after}
use Rattle.meaning.specs.Tables.{value_meaning, relation_meaning, AllMean}
use Rattle.meaning.specs.Systems.{Table, Least}
use Rattle.meaning.specs.Knowns.{Added}
use Rattle.meaning.specs.Sameness.{same_self, same_sym, same_trans, pairs_same}
use Rattle.meaning.specs.Rising.{never, length_names}
use Rattle.meaning.proofs.Operated.{means_self, means_same, means_as}
use Rattle.meaning.proofs.Evaluated.{meaning_same}
use Rattle.meaning.proofs.Valued.{front_names}

-- as many meanings, each the same
unfoldable pub SameAll : List Meaning → List Meaning → Type 0
SameAll [] [] = Unit {0}
SameAll [] (m ∷ ms) = ⊥
SameAll (m ∷ ms) [] = ⊥
SameAll (m ∷ ms) (n ∷ ns) = Same m n × SameAll ms ns

pub same_all_self : (ms : List Meaning) → SameAll ms ms
unfolding SameAll
same_all_self [] = tt
same_all_self (m ∷ ms) = (same_self m, same_all_self ms)

pub same_all_at : (ms ns : List Meaning) → SameAll ms ns → (i : ℕ) → Same (get_or ms i never) (get_or ns i never)
unfolding SameAll
same_all_at [] [] h i = same_self never
same_all_at [] (n ∷ ns) h i = absurd h
same_all_at (m ∷ ms) [] h i = absurd h
same_all_at (m ∷ ms) (n ∷ ns) h zero = h.0
same_all_at (m ∷ ms) (n ∷ ns) h (suc i) = same_all_at ms ns h.1 i

pub same_all_from : (ms ns : List Meaning) → length ms ≡ length ns → ((i : ℕ) → Same (get_or ms i never) (get_or ns i never)) → SameAll ms ns
unfolding SameAll
same_all_from [] [] e h = tt
same_all_from [] (n ∷ ns) e h = absurd (omega arith)
same_all_from (m ∷ ms) [] e h = absurd (omega arith)
same_all_from (m ∷ ms) (n ∷ ns) e h = (h 0, same_all_from ms ns (omega arith) (λ i. h (suc i)))

pub same_all_append : (ms ns xs ys : List Meaning) → SameAll ms ns → SameAll xs ys → SameAll (ms ++ xs) (ns ++ ys)
unfolding SameAll
same_all_append [] [] xs ys h g = g
same_all_append [] (n ∷ ns) xs ys h g = absurd h
same_all_append (m ∷ ms) [] xs ys h g = absurd h
same_all_append (m ∷ ms) (n ∷ ns) xs ys h g = (h.0, same_all_append ms ns xs ys h.1 g)

pub same_all_trans : (ms ns os : List Meaning) → SameAll ms ns → SameAll ns os → SameAll ms os
unfolding SameAll
same_all_trans [] [] os h g = g
same_all_trans [] (n ∷ ns) os h g = absurd h
same_all_trans (m ∷ ms) [] os h g = absurd h
same_all_trans (m ∷ ms) (n ∷ ns) [] h g = absurd g
same_all_trans (m ∷ ms) (n ∷ ns) (o ∷ os) h g = (same_trans m n o h.0 g.0, same_all_trans ms ns os h.1 g.1)

pub same_all_sym : (ms ns : List Meaning) → SameAll ms ns → SameAll ns ms
unfolding SameAll
same_all_sym [] [] h = tt
same_all_sym [] (n ∷ ns) h = absurd h
same_all_sym (m ∷ ms) [] h = absurd h
same_all_sym (m ∷ ms) (n ∷ ns) h = (same_sym m n h.0, same_all_sym ms ns h.1)

-- values that have meanings, and others that are the same
pub mean_same : (vs : List Value) (ms : List Meaning) → AllMean vs ms → SameAll (map value_meaning vs) ms
unfolding AllMean SameAll
mean_same [] [] h = tt
mean_same [] (m ∷ ms) h = absurd h
mean_same (v ∷ vs) [] h = absurd h
mean_same (v ∷ vs) (m ∷ ms) h = (means_same v m h.0, mean_same vs ms h.1)

pub mean_as : (vs : List Value) (ms ns : List Meaning) → AllMean vs ms → SameAll ms ns → AllMean vs ns
unfolding AllMean SameAll
mean_as [] [] [] h s = tt
mean_as [] [] (n ∷ ns) h s = absurd s
mean_as [] (m ∷ ms) ns h s = absurd h
mean_as (v ∷ vs) [] ns h s = absurd h
mean_as (v ∷ vs) (m ∷ ms) [] h s = absurd s
mean_as (v ∷ vs) (m ∷ ms) (n ∷ ns) h s = (means_as v m n h.0 s.0, mean_as vs ms ns h.1 s.1)

pub mean_self : (vs : List Value) → AllMean vs (map value_meaning vs)
unfolding AllMean
mean_self [] = tt
mean_self (v ∷ vs) = (means_self v, mean_self vs)

-- one more value behind them
pub mean_push : (vs : List Value) (ms : List Meaning) (v : Value) (m : Meaning) → AllMean vs ms → Means v m → AllMean (vs ++ v ∷ []) (ms ++ m ∷ [])
unfolding AllMean
mean_push [] [] v m h g = (g, tt)
mean_push [] (x ∷ ms) v m h g = absurd h
mean_push (w ∷ vs) [] v m h g = absurd h
mean_push (w ∷ vs) (x ∷ ms) v m h g = (h.0, mean_push vs ms v m h.1 g)

-- no value means nothing
pub mean_none : AllMean [] []
unfolding AllMean
mean_none = tt

-- as many values as meanings
all_mean_length : (vs : List Value) (ms : List Meaning) → AllMean vs ms → length vs ≡ length ms
unfolding AllMean
all_mean_length [] [] h = refl
all_mean_length [] (m ∷ ms) h = absurd h
all_mean_length (v ∷ vs) [] h = absurd h
all_mean_length (v ∷ vs) (m ∷ ms) h = ap suc (all_mean_length vs ms h.1)

-- relations that are put behind values
abbrev pub Putting : List Value → List Value → List Relation → Type 0
Putting old values front = length old + length front ≤ 64 → AllMean values (map value_meaning old ++ map relation_meaning front)

pub putting_none : (values : List Value) → Putting values values []
putting_none values few = subst⁻¹ (λ ms. AllMean values ms) (append-nil (map value_meaning values)) (mean_self values)

pub putting_more : (old values new : List Value) (found : List Relation) (i : ℕ) (v : Value) (d : Relation) → i < length found → Putting old values (take i found) → (length values < 64 → new ≡ values ++ v ∷ []) → Means v (relation_meaning (get_or found i d)) → Putting old new (take (i + 1) found)
putting_more old values new found i v d l p push m few =
    let K = map value_meaning old in
    let front = take i found in
    let r = get_or found i d in
    let list = take_more found i d l in
    let long = length-take-le i found (omega (arith, l)) in
    let longer = length-take-le (i + 1) found (omega (arith, l)) in
    let before = p (omega (arith, few, long, longer)) in
    let size = all_mean_length values (K ++ map relation_meaning front) before ∙ length-append K (map relation_meaning front) in
    let room : length values < 64 = omega (arith, few, long, longer, size, length-map old value_meaning, length-map front relation_meaning) in
    let meanings : K ++ map relation_meaning (take (i + 1) found) ≡ (K ++ map relation_meaning front) ++ relation_meaning r ∷ [] =
    ap (λ xs. K ++ map relation_meaning xs) list ∙ ap (λ xs. K ++ xs) (map-append relation_meaning front (r ∷ [])) ∙ sym (append_assoc K (map relation_meaning front) (relation_meaning r ∷ [])) in
    subst⁻¹ (λ ms. AllMean new ms) meanings
    (subst⁻¹ (λ xs. AllMean xs ((K ++ map relation_meaning front) ++ relation_meaning r ∷ [])) (push room) (mean_push values (K ++ map relation_meaning front) v (relation_meaning r) before m))

pub putting_done : (old values : List Value) (found : List Relation) (i : ℕ) → length found ≤ i → Putting old values (take i found) → Putting old values found
putting_done old values found i l p = subst (Putting old values) (take_all i found l) p

-- a term and a least solution under the same meanings
pub term_same : (base : Base) (ks js : List Meaning) → SameAll ks js → (b : Binding) → Same (meaning base ks b.term) (meaning base js b.term)
term_same base ks js h b = meaning_same base ks js (same_all_at ks js h) b.term

-- names that are the same
as_same_all : (R S : ℕ → Pairs) → ((j : ℕ) → SamePairs (R j) (S j)) → (k : ℕ) (bs : List Binding) → SameAll (as_meanings R k bs) (as_meanings S k bs)
unfolding as_meanings SameAll
as_same_all R S h k [] = tt
as_same_all R S h k (b ∷ bs) = (h k, as_same_all R S h (k + 1) bs)

-- a solution under other names, and other meanings before them, that are the same
pub solves_same : (base : Base) (ks js : List Meaning) (bs : List Binding) (R S : ℕ → Pairs) → SameAll ks js → ((j : ℕ) → SamePairs (R j) (S j)) → Solves base ks bs R → Solves base js bs S
solves_same base ks js bs R S h same s j b at x y =
    let ns = as_meanings R 0 bs in
    let ms = as_meanings S 0 bs in
    let e = pairs_same (meaning base (ks ++ ns) b.term) (meaning base (js ++ ms) b.term) (term_same base (ks ++ ns) (js ++ ms) (same_all_append ks js ns ms h (as_same_all R S same 0 bs)) b) in
    (λ r. (e x y).0 ((s j b at x y).0 ((same j x y).1 r)), λ r. (same j x y).0 ((s j b at x y).1 ((e x y).1 r)))

least_same : (base : Base) (ks js : List Meaning) (bs : List Binding) → SameAll ks js → (j : ℕ) → SamePairs (least base ks bs j) (least base js bs j)
least_same base ks js bs h j a b =
    (λ l x s. l x (solves_same base js ks bs (told x) (told x) (same_all_sym ks js h) (λ j a b. (λ r. r, λ r. r)) s), λ l x s. l x (solves_same base ks js bs (told x) (told x) h (λ j a b. (λ r. r, λ r. r)) s))

-- what is known behind a statement
pub after_same : (base : Base) (ks js : List Meaning) → SameAll ks js → (s : Statement) → SameAll (known_after base ks s) (known_after base js s)
unfolding SameAll
after_same base ks js h (lets b) = same_all_append ks js (meaning base ks b.term ∷ []) (meaning base js b.term ∷ []) h (term_same base ks js h b, tt)
after_same base ks js h (groups bs) = same_all_append ks js (as_meanings (least base ks bs) 0 bs) (as_meanings (least base js bs) 0 bs) h (as_same_all (least base ks bs) (least base js bs) (least_same base ks js bs h) 0 bs)
after_same base ks js h (checks c) = h

-- how many are known behind a statement
pub length_after : (base : Base) (known : List Meaning) (s : Statement) → length (known_after base known s) ≡ length known + binds s
length_after base known (lets b) = length-append known (meaning base known b.term ∷ [])
length_after base known (groups bs) = length-append known (as_meanings (least base known bs) 0 bs) ∙ ap (λ n. length known + n) (length_names (least base known bs) 0 bs)
length_after base known (checks c) = let z : length known ≡ length known + 0 = omega arith in z

-- so many more values
pub added_length : (base : given_base.Base) (s : Statement) (old new : List Value) → AllMean new (known_after (base_meaning base) (map value_meaning old) s) → length new ≡ length old + binds s
added_length base s old new h =
    let K = map value_meaning old in
    omega (arith, all_mean_length new (known_after (base_meaning base) K s) h, length_after (base_meaning base) K s, length-map old value_meaning)

-- a let is added
pub added_let : (base : given_base.Base) (b : Binding) (old new : List Value) (v : Value) → (length old < 64 → new ≡ old ++ v ∷ []) → Means v (meaning (base_meaning base) (map value_meaning old ++ []) b.term) → Added base (lets b) old new
added_let base b old new v push m fine few =
    let K = map value_meaning old in
    subst⁻¹ (λ xs. AllMean xs (K ++ meaning (base_meaning base) K b.term ∷ [])) (push (omega (arith, few)))
    (mean_push old K v (meaning (base_meaning base) K b.term) (mean_self old) (subst (λ ks. Means v (meaning (base_meaning base) ks b.term)) (append-nil K) m))

-- past the 64th none is
pub full_let : (base : given_base.Base) (b : Binding) {s : Statement} (values : List Value) → s ≡ lets b → 64 ≤ length values → Added base s values values
full_let base b values e l = subst⁻¹ (λ s. Added base s values values) e (λ fine few. absurd (omega (arith, l, few)))

-- a group is added
pub added_group : (base : given_base.Base) (bs : List Binding) (old new : List Value) (found : List Relation) (count : ℕ) → count ≡ min (length bs) 64 → Least (record { base = base; known = old; bindings = bs }) found → Putting old new (take count found) → Added base (groups bs) old new
added_group base bs old new found count c s put fine few =
    let K = map value_meaning old in
    let short : length bs ≤ 64 = omega (arith, few) in
    let all : count ≡ length bs = omega (arith, c, short) in
    let long = length-take-le count found (omega (arith, all, short, s.long)) in
    let least-of = least (base_meaning base) K bs in
    mean_as new (K ++ map relation_meaning (take count found)) (K ++ as_meanings least-of 0 bs) (put (omega (arith, long, all, few)))
    (same_all_append K K (map relation_meaning (take count found)) (as_meanings least-of 0 bs) (same_all_self K)
    (same_all_trans (map relation_meaning (take count found)) (as_meanings (Table found) 0 bs) (as_meanings least-of 0 bs)
    (same_all_from (map relation_meaning (take count found)) (as_meanings (Table found) 0 bs)
    (length-map (take count found) relation_meaning ∙ long ∙ all ∙ sym (length_names (Table found) 0 bs)) (front_names found bs count s.long c))
    (as_same_all (Table found) least-of (λ j a b. (s.means fine short j a b, s.covers fine short j a b)) 0 bs)))

-- a check adds nothing
pub added_check : (base : given_base.Base) {s : Statement} (c : Claim) (values : List Value) → s ≡ checks c → Added base s values values
added_check base c values e = subst⁻¹ (λ s. Added base s values values) e (λ _ _. mean_self values)
