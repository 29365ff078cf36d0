-- Tokens within the limits are those of at most 64 bindings and 16 checks. Assumes nothing.
use Rattle.std.proofs.Common.{◌≡◌, ℕ, zero, suc, ◌+◌, ◌<◌, ◌≤◌, Bool, true, false, leb, List, [], ◌∷◌, ◌++◌, length, take, drop, sym, refl, ap, ◌∙◌, subst, ⊎_elim, append_assoc, add-one, arith}
use Rattle.std.proofs.lemmas.Bool.{cases_lt}
use Rattle.sentence.specs.declared.sort.Sort.{Sort}
use Rattle.sentence.specs.declared.sort.Sort.TheVariants as sort
use Rattle.sentence.specs.declared.sign.Leaf.TheVariants as leaf
use Rattle.sentence.specs.declared.sign.Bracket.TheVariants as bracket
use Rattle.sentence.specs.declared.sign.Post.TheVariants as post
use Rattle.sentence.specs.declared.sign.Infix.TheVariants as sign
use Rattle.sentence.specs.declared.sign.Word.{Word}
use Rattle.sentence.specs.declared.sign.Word.TheVariants as word
use Rattle.sentence.specs.declared.sign.Infix.{Infix}
use Rattle.sentence.specs.Trees.{Tree, atom, inside, tilde, ended, joined, infix_sort, word_sort, Mark, plain, labelled, flagged, Statement, binds, groups, checks, Sentence, spell, spell_binding, spell_more, spell_statement, spell_statements, spell_text, heading, mark_front, mark_back, negation}
use Rattle.term.specs.Statements.{claims}
use Rattle.term.specs.Recursion as counted
use Rattle.term.specs.Recursion.{many_bindings}
use Rattle.cat.specs.declared.class.Class.{Class}
use Rattle.cat.specs.declared.class.Class.TheVariants.{Name, Equals, Word as CheckWord, Opens, Closes, Other}
use Rattle.cat.specs.declared.class.Tally.{Tally}
use Rattle.cat.specs.Sorts.{Tokens, sorts_of}
use Rattle.cat.specs.Limits.{class, first_class, counted as with_one, tally, nothing_counted, past, over, WithinLimits}
use Rattle.cat.specs.Resolving.{resolve_group, resolve_statement, resolve_statements, bound_after}
use Rattle.cat.specs.Bounds.{ReadsBounded}

-- one for the `=` of a binding, one for a check word
abbrev equals_of : Class → ℕ
equals_of Name = 0
equals_of Equals = 1
equals_of CheckWord = 0
equals_of Opens = 0
equals_of Closes = 0
equals_of Other = 0

abbrev words_of : Class → ℕ
words_of Name = 0
words_of Equals = 0
words_of CheckWord = 1
words_of Opens = 0
words_of Closes = 0
words_of Other = 0

-- how many of a class some sorts have, by a weight
abbrev weigh : (Class → ℕ) → List Sort → ℕ
weigh w [] = 0
weigh w (s ∷ ts) = w (class s) + weigh w ts

weigh_append : (w : Class → ℕ) (xs ys : List Sort) → weigh w (xs ++ ys) ≡ weigh w xs + weigh w ys
weigh_append w [] ys = omega arith
weigh_append w (x ∷ xs) ys = omega (arith, weigh_append w xs ys)

-- the tally has these weights
tally_equals : (t : Tally) (ts : List Sort) → (tally t ts).equals ≡ t.equals + weigh equals_of ts
unfolding tally
tally_equals t [] = omega arith
tally_equals t (s ∷ ts) = go (class s) (tally_equals (with_one t (class s)) ts)
  where
    go : (c : Class) → (tally (with_one t c) ts).equals ≡ (with_one t c).equals + weigh equals_of ts → (tally (with_one t c) ts).equals ≡ t.equals + (equals_of c + weigh equals_of ts)
    go Name h = omega arith
    go Equals h = omega arith
    go CheckWord h = omega arith
    go Opens h = omega arith
    go Closes h = omega arith
    go Other h = omega arith

tally_words : (t : Tally) (ts : List Sort) → (tally t ts).words ≡ t.words + weigh words_of ts
unfolding tally
tally_words t [] = omega arith
tally_words t (s ∷ ts) = go (class s) (tally_words (with_one t (class s)) ts)
  where
    go : (c : Class) → (tally (with_one t c) ts).words ≡ (with_one t c).words + weigh words_of ts → (tally (with_one t c) ts).words ≡ t.words + (words_of c + weigh words_of ts)
    go Name h = omega arith
    go Equals h = omega arith
    go CheckWord h = omega arith
    go Opens h = omega arith
    go Closes h = omega arith
    go Other h = omega arith

-- an expression has neither
expression_free : (w : Class → ℕ) → w Name ≡ 0 → w Opens ≡ 0 → w Closes ≡ 0 → w Other ≡ 0 → (t : Tree) → weigh w (spell t) ≡ 0
expression_free w n o c z (atom leaf.Name) = omega (arith, n)
expression_free w n o c z (atom leaf.Universe) = omega (arith, z)
expression_free w n o c z (atom leaf.NoPairs) = omega (arith, z)
expression_free w n o c z (atom leaf.NoEvents) = omega (arith, z)
expression_free w n o c z (inside bracket.Round t) = omega (arith, weigh_append w (spell t) (sort.Close ∷ []), expression_free w n o c z t, o, c)
expression_free w n o c z (inside bracket.Square t) = omega (arith, weigh_append w (spell t) (sort.CloseSquare ∷ []), expression_free w n o c z t, o, c)
expression_free w n o c z (tilde t) = omega (arith, expression_free w n o c z t, z)
expression_free w n o c z (ended t post.Plus) = omega (arith, weigh_append w (spell t) (sort.Plus ∷ []), expression_free w n o c z t, z)
expression_free w n o c z (ended t post.Closure) = omega (arith, weigh_append w (spell t) (sort.Star ∷ []), expression_free w n o c z t, z)
expression_free w n o c z (ended t post.Question) = omega (arith, weigh_append w (spell t) (sort.Question ∷ []), expression_free w n o c z t, z)
expression_free w n o c z (ended t post.Inverse) = omega (arith, weigh_append w (spell t) (sort.Inverse ∷ []), expression_free w n o c z t, z)
expression_free w n o c z (joined i l r) = omega (arith, weigh_append w (spell l) (infix_sort i ∷ spell r), expression_free w n o c z l, expression_free w n o c z r, weightless i)
  where
    weightless : (i : Infix) → w (class (infix_sort i)) ≡ 0
    weightless sign.Bar = z
    weightless sign.Semicolon = z
    weightless sign.Backslash = z
    weightless sign.Ampersand = z
    weightless sign.Product = z

no_equals : (t : Tree) → weigh equals_of (spell t) ≡ 0
no_equals = expression_free equals_of refl refl refl refl

no_words : (t : Tree) → weigh words_of (spell t) ≡ 0
no_words = expression_free words_of refl refl refl refl

-- how many bindings a statement has, and how many checks it is
abbrev said_binds : Statement → ℕ
said_binds (binds t) = 1
said_binds (groups t ts) = suc (length ts)
said_binds (checks m n w t) = 0

abbrev said_checks : Statement → ℕ
said_checks (binds t) = 0
said_checks (groups t ts) = 0
said_checks (checks m n w t) = 1

more_equals : (ts : List Tree) → weigh equals_of (spell_more ts) ≡ length ts
more_equals [] = refl
more_equals (t ∷ ts) = omega (arith, weigh_append equals_of (sort.And ∷ spell_binding t) (spell_more ts), no_equals t, more_equals ts)

more_words : (ts : List Tree) → weigh words_of (spell_more ts) ≡ 0
more_words [] = refl
more_words (t ∷ ts) = omega (arith, weigh_append words_of (sort.And ∷ spell_binding t) (spell_more ts), no_words t, more_words ts)

-- the weights of what stands around a check
front_free : (w : Class → ℕ) → w Other ≡ 0 → (m : Mark) → weigh w (mark_front m) ≡ 0
front_free w z plain = refl
front_free w z labelled = refl
front_free w z flagged = omega (arith, z)

back_free : (w : Class → ℕ) → w Other ≡ 0 → w Name ≡ 0 → (m : Mark) → weigh w (mark_back m) ≡ 0
back_free w z n plain = refl
back_free w z n labelled = omega (arith, z, n)
back_free w z n flagged = omega (arith, z, n)

negation_free : (w : Class → ℕ) → w Other ≡ 0 → (b : Bool) → weigh w (negation b) ≡ 0
negation_free w z true = omega (arith, z)
negation_free w z false = refl

word_weight : (w : Class → ℕ) (x : Word) → w (class (word_sort x)) ≡ w CheckWord
word_weight w word.Acyclic = refl
word_weight w word.Irreflexive = refl
word_weight w word.Empty = refl

check_weight : (w : Class → ℕ) → w Other ≡ 0 → w Name ≡ 0 → ((t : Tree) → weigh w (spell t) ≡ 0) → (m : Mark) (b : Bool) (x : Word) (t : Tree) → weigh w (spell_statement (checks m b x t)) ≡ w CheckWord
check_weight w z n free m b x t =
    omega (
      arith,
      weigh_append w (mark_front m) (negation b ++ (word_sort x ∷ (spell t ++ mark_back m))),
      weigh_append w (negation b) (word_sort x ∷ (spell t ++ mark_back m)),
      weigh_append w (spell t) (mark_back m),
      front_free w z m,
      negation_free w z b,
      word_weight w x,
      free t,
      back_free w z n m,
    )

statement_equals : (s : Statement) → weigh equals_of (spell_statement s) ≡ said_binds s
statement_equals (binds t) = omega (arith, no_equals t)
statement_equals (groups t ts) = omega (arith, weigh_append equals_of (spell_binding t) (spell_more ts), no_equals t, more_equals ts)
statement_equals (checks m b x t) = check_weight equals_of refl refl no_equals m b x t

statement_words : (s : Statement) → weigh words_of (spell_statement s) ≡ said_checks s
statement_words (binds t) = omega (arith, no_words t)
statement_words (groups t ts) = omega (arith, weigh_append words_of (spell_binding t) (spell_more ts), no_words t, more_words ts)
statement_words (checks m b x t) = check_weight words_of refl refl no_words m b x t

-- the statements that are resolved have as many
group_length : (found : Tokens) (bound before : List ℕ) (s : ℕ) (ts : List Tree) → length (resolve_group found bound before s ts) ≡ length ts
unfolding resolve_group
group_length found bound before s [] = refl
group_length found bound before s (t ∷ ts) = ap suc (group_length found bound (before ++ (s ∷ [])) (s + length (spell_binding t) + 1) ts)

statement_binds : (found : Tokens) (bound : List ℕ) (s : ℕ) (x : Statement) → counted.binds (resolve_statement found bound s x) ≡ said_binds x
statement_binds found bound s (binds t) = refl
statement_binds found bound s (groups t ts) = group_length found _ [] (s + 2) (t ∷ ts)
statement_binds found bound s (checks m n w t) = refl

resolved_equals : (found : Tokens) (bound : List ℕ) (s : ℕ) (xs : List Statement) → many_bindings (resolve_statements found bound s xs) ≡ weigh equals_of (spell_statements xs)
unfolding resolve_statements many_bindings
resolved_equals found bound s [] = refl
resolved_equals found bound s (x ∷ xs) =
    omega (arith, statement_binds found bound s x, statement_equals x, resolved_equals found (bound_after bound s x) (s + length (spell_statement x)) xs, weigh_append equals_of (spell_statement x) (spell_statements xs))

resolved_words : (found : Tokens) (bound : List ℕ) (s : ℕ) (xs : List Statement) → length (claims (resolve_statements found bound s xs)) ≡ weigh words_of (spell_statements xs)
unfolding resolve_statements claims
resolved_words found bound s [] = refl
resolved_words found bound s (binds t ∷ xs) =
    omega (arith, statement_words (binds t), resolved_words found (bound_after bound s (binds t)) (s + length (spell_statement (binds t))) xs, weigh_append words_of (spell_statement (binds t)) (spell_statements xs))
resolved_words found bound s (groups t ts ∷ xs) =
    omega (arith, statement_words (groups t ts), resolved_words found (bound_after bound s (groups t ts)) (s + length (spell_statement (groups t ts))) xs, weigh_append words_of (spell_statement (groups t ts)) (spell_statements xs))
resolved_words found bound s (checks m n w t ∷ xs) =
    omega (arith, statement_words (checks m n w t), resolved_words found (bound_after bound s (checks m n w t)) (s + length (spell_statement (checks m n w t))) xs, weigh_append words_of (spell_statement (checks m n w t)) (spell_statements xs))

-- each `=` comes right behind a name; what comes before the first sort is of a class
abbrev BehindNames : Class → List Sort → Type 0
BehindNames p [] = Unit {0}
BehindNames p (s ∷ ts) = (class s ≡ Equals → p ≡ Name) × BehindNames (class s) ts

no_equal : (c : Class) → equals_of c ≡ 0 → c ≡ Equals → ⊥
no_equal c e is = omega (arith, e, ap equals_of is)

free_behind : (xs : List Sort) → weigh equals_of xs ≡ 0 → (ys : List Sort) → ((q : Class) → BehindNames q ys) → (p : Class) → BehindNames p (xs ++ ys)
free_behind [] e ys h p = h p
free_behind (x ∷ xs) e ys h p = ((λ is. absurd (no_equal (class x) (omega arith) is)), free_behind xs (omega arith) ys h (class x))

binding_behind : (t : Tree) (ys : List Sort) → ((q : Class) → BehindNames q ys) → (p : Class) → BehindNames p (spell_binding t ++ ys)
binding_behind t ys h p = ((λ is. absurd (no_equal Name refl is)), ((λ is. refl), free_behind (spell t) (no_equals t) ys h Equals))

more_behind : (ts : List Tree) (ys : List Sort) → ((q : Class) → BehindNames q ys) → (p : Class) → BehindNames p (spell_more ts ++ ys)
more_behind [] ys h p = h p
more_behind (t ∷ ts) ys h p =
    ((λ is. absurd (no_equal Other refl is)), subst (BehindNames Other) (sym (append_assoc (spell_binding t) (spell_more ts) ys)) (binding_behind t (spell_more ts ++ ys) (more_behind ts ys h) Other))

statement_behind : (s : Statement) (ys : List Sort) → ((q : Class) → BehindNames q ys) → (p : Class) → BehindNames p (spell_statement s ++ ys)
statement_behind (binds t) ys h p = ((λ is. absurd (no_equal Other refl is)), binding_behind t ys h Other)
statement_behind (groups t ts) ys h p = (
  (λ is. absurd (no_equal Other refl is)),
  (
    (λ is. absurd (no_equal Other refl is)),
    subst (BehindNames Other) (sym (append_assoc (spell_binding t) (spell_more ts) ys)) (binding_behind t (spell_more ts ++ ys) (more_behind ts ys h) Other),
  ),
)
statement_behind (checks m b x t) ys h p = free_behind (spell_statement (checks m b x t)) (statement_equals (checks m b x t)) ys h p

statements_behind : (xs : List Statement) (p : Class) → BehindNames p (spell_statements xs)
statements_behind [] p = tt
statements_behind (x ∷ xs) p = statement_behind x (spell_statements xs) (statements_behind xs) p

heading_free : (w : Class → ℕ) → w Other ≡ 0 → (b : Bool) → weigh w (heading b) ≡ 0
heading_free w z true = omega (arith, z)
heading_free w z false = refl

text_behind : (x : Sentence) → BehindNames Other (spell_text x)
text_behind x = free_behind (heading x.titled) (heading_free equals_of refl x.titled) (spell_statements x.statements) (statements_behind x.statements) Other

-- one more sort weighs what it weighs
weigh_take : (w : Class → ℕ) → w Other ≡ 0 → (ts : List Sort) (k : ℕ) → weigh w (take (suc k) ts) ≡ weigh w (take k ts) + w (first_class (drop k ts))
weigh_take w z [] zero = omega (arith, z)
weigh_take w z [] (suc k) = omega (arith, z)
weigh_take w z (s ∷ ts) zero = omega arith
weigh_take w z (s ∷ ts) (suc k) = omega (arith, weigh_take w z ts k)

-- the place of an `=` with so many before it, behind its name
pub record EqualsAt (p : Sort) (ts : List Sort) (n k : ℕ) : Type 0 where
  pub name : first_class (drop k (p ∷ ts)) ≡ Name
  pub here : first_class (drop k ts) ≡ Equals
  pub count : weigh equals_of (take k ts) ≡ n

nth_equals : (p : Sort) (ts : List Sort) (n : ℕ) → BehindNames (class p) ts → n < weigh equals_of ts → (k : ℕ) × EqualsAt p ts n k
nth_equals p [] n h lt = absurd (omega arith)
nth_equals p (s ∷ ts) n h lt = go (λ m. nth_equals s ts m h.1) (class s) refl n refl
  where
    on : (m k : ℕ) → equals_of (class s) + m ≡ n → EqualsAt s ts m k → EqualsAt p (s ∷ ts) n (suc k)
    on m k e g = record { name = g.name; here = g.here; count = omega (arith, g.count) }

    other : ((m : ℕ) → m < weigh equals_of ts → (k : ℕ) × EqualsAt s ts m k) → (c : Class) → class s ≡ c → equals_of c ≡ 0 → (k : ℕ) × EqualsAt p (s ∷ ts) n k
    other rest c is z =
        let none : equals_of (class s) ≡ 0 = ap equals_of is ∙ z in
        let r = rest n (omega arith) in
        (suc r.0, on n r.0 (omega arith) r.1)

    first : ((m : ℕ) → m < weigh equals_of ts → (k : ℕ) × EqualsAt s ts m k) → class s ≡ Equals → (m : ℕ) → m ≡ n → (k : ℕ) × EqualsAt p (s ∷ ts) n k
    first rest is zero e = (zero, record { name = h.0 is; here = is; count = e })
    first rest is (suc m) e =
        let one : equals_of (class s) ≡ 1 = ap equals_of is in
        let r = rest m (omega arith) in
        (suc r.0, on m r.0 (omega arith) r.1)

    go : ((m : ℕ) → m < weigh equals_of ts → (k : ℕ) × EqualsAt s ts m k) → (c : Class) → class s ≡ c → (m : ℕ) → m ≡ n → (k : ℕ) × EqualsAt p (s ∷ ts) n k
    go rest Name is m e = other rest Name is refl
    go rest Equals is m e = first rest is m e
    go rest CheckWord is m e = other rest CheckWord is refl
    go rest Opens is m e = other rest Opens is refl
    go rest Closes is m e = other rest Closes is refl
    go rest Other is m e = other rest Other is refl

-- a check word with so many before it
pub record WordAt (ts : List Sort) (n k : ℕ) : Type 0 where
  pub here : first_class (drop k ts) ≡ CheckWord
  pub count : weigh words_of (take k ts) ≡ n

nth_word : (ts : List Sort) (n : ℕ) → n < weigh words_of ts → (k : ℕ) × WordAt ts n k
nth_word [] n lt = absurd (omega arith)
nth_word (s ∷ ts) n lt = go (nth_word ts) (class s) refl n refl
  where
    on : (m k : ℕ) → words_of (class s) + m ≡ n → WordAt ts m k → WordAt (s ∷ ts) n (suc k)
    on m k e g = record { here = g.here; count = omega (arith, g.count) }

    other : ((m : ℕ) → m < weigh words_of ts → (k : ℕ) × WordAt ts m k) → (c : Class) → class s ≡ c → words_of c ≡ 0 → (k : ℕ) × WordAt (s ∷ ts) n k
    other rest c is z =
        let none : words_of (class s) ≡ 0 = ap words_of is ∙ z in
        let r = rest n (omega arith) in
        (suc r.0, on n r.0 (omega arith) r.1)

    first : ((m : ℕ) → m < weigh words_of ts → (k : ℕ) × WordAt ts m k) → class s ≡ CheckWord → (m : ℕ) → m ≡ n → (k : ℕ) × WordAt (s ∷ ts) n k
    first rest is zero e = (zero, record { here = is; count = e })
    first rest is (suc m) e =
        let one : words_of (class s) ≡ 1 = ap words_of is in
        let r = rest m (omega arith) in
        (suc r.0, on m r.0 (omega arith) r.1)

    go : ((m : ℕ) → m < weigh words_of ts → (k : ℕ) × WordAt ts m k) → (c : Class) → class s ≡ c → (m : ℕ) → m ≡ n → (k : ℕ) × WordAt (s ∷ ts) n k
    go rest Name is m e = other rest Name is refl
    go rest Equals is m e = other rest Equals is refl
    go rest CheckWord is m e = first rest is m e
    go rest Opens is m e = other rest Opens is refl
    go rest Closes is m e = other rest Closes is refl
    go rest Other is m e = other rest Other is refl

-- more than 64 bindings pass a limit, and more than 16 checks do
past_name : (c n : Class) (t : Tally) → c ≡ Name → n ≡ Equals → t.equals ≡ 64 → past c n t ≡ true
past_name c n t is next e = ap (λ x. past x n t) is ∙ ap (λ x. past Name x t) next ∙ ap (leb 64) e

past_word : (c n : Class) (t : Tally) → c ≡ CheckWord → t.words ≡ 16 → past c n t ≡ true
past_word c n t is e = ap (λ x. past x n t) is ∙ ap (leb 16) e

too_many_names : (ts : List Sort) → BehindNames Other ts → 64 < weigh equals_of ts → (k : ℕ) × (over ts k ≡ true)
unfolding over
too_many_names [] h lt = absurd (omega arith)
too_many_names (s ∷ ts) h lt =
    let none : equals_of (class s) ≡ 0 = unlike (class s) refl in
    let r = nth_equals s ts 64 h.1 (omega arith) in
    let k = r.0 in
    let more = weigh_take equals_of refl (s ∷ ts) k in
    let name : equals_of (first_class (drop k (s ∷ ts))) ≡ 0 = ap equals_of r.1.name in
    let count : (tally nothing_counted (take k (s ∷ ts))).equals ≡ 64 = tally_equals nothing_counted (take k (s ∷ ts)) ∙ omega (arith, more, name, none, r.1.count) in
    (k, past_name (first_class (drop k (s ∷ ts))) (first_class (drop (k + 1) (s ∷ ts))) (tally nothing_counted (take k (s ∷ ts))) r.1.name (ap (λ n. first_class (drop n (s ∷ ts))) (add-one k) ∙ r.1.here) count)
  where
    clash : Other ≡ Name → ⊥
    clash e = let z : ◌≡◌ {A = ℕ} 0 1 = cc in omega arith

    unlike : (c : Class) → class s ≡ c → equals_of (class s) ≡ 0
    unlike Name is = ap equals_of is
    unlike Equals is = absurd (clash (h.0 is))
    unlike CheckWord is = ap equals_of is
    unlike Opens is = ap equals_of is
    unlike Closes is = ap equals_of is
    unlike Other is = ap equals_of is

too_many_words : (ts : List Sort) → 16 < weigh words_of ts → (k : ℕ) × (over ts k ≡ true)
unfolding over
too_many_words ts lt =
    let r = nth_word ts 16 lt in
    (r.0, past_word (first_class (drop r.0 ts)) (first_class (drop (r.0 + 1) ts)) (tally nothing_counted (take r.0 ts)) r.1.here (tally_words nothing_counted (take r.0 ts) ∙ omega (arith, r.1.count)))

never : (ts : List Sort) (k : ℕ) → WithinLimits ts → over ts k ≡ true → ⊥
never ts k h e = let c : true ≡ false = sym e ∙ h k in let z : ◌≡◌ {A = ℕ} 0 1 = cc in omega arith

within_equals : (ts : List Sort) → BehindNames Other ts → WithinLimits ts → weigh equals_of ts ≤ 64
within_equals ts h w = ⊎_elim (λ lt. absurd (let r = too_many_names ts h lt in never ts r.0 w r.1)) (λ le. le) (cases_lt 64 (weigh equals_of ts))

within_words : (ts : List Sort) → WithinLimits ts → weigh words_of ts ≤ 16
within_words ts w = ⊎_elim (λ lt. absurd (let r = too_many_words ts lt in never ts r.0 w r.1)) (λ le. le) (cases_lt 16 (weigh words_of ts))

-- so a text that is read is bounded
pub reads_bounded : ReadsBounded
reads_bounded text ss h =
    let r = h.resolves in
    let x = r.sentence in
    let spelled : spell_text x ≡ sorts_of h.found = r.phrased.writes.spells in
    let within : WithinLimits (spell_text x) = subst WithinLimits (sym spelled) r.within in
    let equals = within_equals (spell_text x) (text_behind x) within in
    let words = within_words (spell_text x) within in
    let front = weigh_append equals_of (heading x.titled) (spell_statements x.statements) in
    let front' = weigh_append words_of (heading x.titled) (spell_statements x.statements) in
    record {
      bindings =
          subst (λ z. many_bindings z ≤ 64) (sym r.are)
          (omega (arith, equals, front, heading_free equals_of refl x.titled, resolved_equals h.found [] (length (heading x.titled)) x.statements));
      checks =
          subst (λ z. length (claims z) ≤ 16) (sym r.are)
          (omega (arith, words, front', heading_free words_of refl x.titled, resolved_words h.found [] (length (heading x.titled)) x.statements));
    }
