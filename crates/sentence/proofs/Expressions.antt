-- The machine reads every well grouped expression off its spelling. Assumes nothing.
use Rattle.std.proofs.Common.{◌≡◌, ◌≤◌, List, [], ◌∷◌, ◌++◌, Some, refl, ap, ◌∙◌, append_assoc, arith}
use Rattle.sentence.specs.declared.sort.Sort.{Sort}
use Rattle.sentence.specs.declared.sort.Sort.TheVariants.{Tilde}
use Rattle.sentence.specs.Trees.{Leaf, name, Bracket, round, square, Post, plus, closure, Infix, bar, product, Tree, atom, inside, tilde, ended, joined, leaf_sort, open_sort, close_sort, post_sort, infix_sort, spell, level, bound, Well, Word, acyclic, Statement, Sentence, word_sort}
use Rattle.sentence.specs.Machine.{leaf, opens, Speech, lets, flags, words, Role, starts, goes, complements, speaks, role, suffix, fill, asked, Wait, nothing, behind, tilded, Frame, Owner, State, ready, operand, after, starred, also, onto, finish, leaving, from_ready, spoken, opening, feed, accept, reads}
use Rattle.sentence.proofs.Inserts.{asked_most, rank_most, insert_fill, suffix_fill, suffix_tight}

-- the sorts do not begin an atom
abbrev pub StillRole : Role → Type 0
StillRole (starts s) = ⊥
StillRole r = Unit {0}

abbrev pub Still : List Sort → Type 0
Still [] = Unit {0}
Still (s ∷ ts) = StillRole (role s)

-- the roles of signs
role_leaf : (l : Leaf) → role (leaf_sort l) ≡ starts (leaf l)
role_leaf name = refl
role_leaf l = refl

role_open : (b : Bracket) → role (open_sort b) ≡ starts (opens b)
role_open round = refl
role_open square = refl

pub role_word : (w : Word) → role (word_sort w) ≡ speaks (words w)
role_word acyclic = refl
role_word w = refl

pub still_close : (b : Bracket) (rest : List Sort) → Still (close_sort b ∷ rest)
still_close round rest = tt
still_close square rest = tt

still_post : (s : Post) (rest : List Sort) → Still (post_sort s ∷ rest)
still_post plus rest = tt
still_post s rest = tt

still_infix : (i : Infix) (rest : List Sort) → Still (infix_sort i ∷ rest)
still_infix bar rest = tt
still_infix i rest = tt

-- a star that nothing follows up is the closure
pub starred_still : (p : Sentence) (o : Owner) (fs : List Frame) (t : Tree) (rest : List Sort) → Still rest → reads (starred p o fs t) rest ≡ reads (after p o fs (suffix t closure)) rest
unfolding reads accept feed
starred_still p o fs t [] h = refl
starred_still p o fs t (s ∷ ts) h = go (role s) h
  where
    go : (r : Role) → StillRole r → onto (feed (starred p o fs t) r) (λ d. reads d ts) ≡ onto (feed (after p o fs (suffix t closure)) r) (λ d. reads d ts)
    go (starts s) h = elim h [ ]
    go r h = refl

-- one step along a sort
pub step : (c : State) (s : Sort) (r : Role) (d : State) (ts : List Sort) → role s ≡ r → feed c r ≡ Some d → reads c (s ∷ ts) ≡ reads d ts
unfolding reads
step c s r d ts e f = ap (λ x. onto (feed c x) (λ d. reads d ts)) e ∙ ap (λ x. onto x (λ d. reads d ts)) f

-- what holds together begins an atom, so a star before it is the product
starred_tight : (r : Tree) (p : Sentence) (o : Owner) (fs : List Frame) (t : Tree) (rest : List Sort) → Well r → 7 ≤ level r →
    reads (starred p o fs t) (spell r ++ rest) ≡ reads (operand p o fs (behind t product)) (spell r ++ rest)
unfolding reads feed
starred_tight (atom l) p o fs t rest w h = rw (role_leaf l) refl
starred_tight (inside b r) p o fs t rest w h = rw (role_open b) refl
starred_tight (tilde r) p o fs t rest w h = absurd (omega arith)
starred_tight (ended r s) p o fs t rest w h = rw (append_assoc (spell r) (post_sort s ∷ []) rest) (starred_tight r p o fs t (post_sort s ∷ rest) w.0 w.1)
starred_tight (joined i a b) p o fs t rest w h = absurd (omega (arith, rank_most i))

-- an infix sign behind an expression, its right operand to come
read_infix : (i : Infix) (r : Tree) (p : Sentence) (o : Owner) (fs : List Frame) (t : Tree) (rest : List Sort) → Well r → bound i ≤ level r →
    reads (after p o fs t) (infix_sort i ∷ (spell r ++ rest)) ≡ reads (operand p o fs (behind t i)) (spell r ++ rest)
unfolding reads feed
read_infix product r p o fs t rest w h = starred_tight r p o fs t rest w h
read_infix i r p o fs t rest w h = refl

-- a sign behind an expression
read_post : (s : Post) (p : Sentence) (o : Owner) (fs : List Frame) (t : Tree) (rest : List Sort) → Still rest →
    reads (after p o fs t) (post_sort s ∷ rest) ≡ reads (after p o fs (suffix t s)) rest
unfolding reads feed
read_post closure p o fs t rest h = starred_still p o fs t rest h
read_post s p o fs t rest h = refl

-- a bracket closes
pub read_close : (b : Bracket) (p : Sentence) (o : Owner) (fs : List Frame) (w : Wait) (t : Tree) (rest : List Sort) →
    reads (after p o (record { bracket = b; waits = w } ∷ fs) t) (close_sort b ∷ rest) ≡ reads (after p o fs (fill w (inside b t))) rest
unfolding reads feed
read_close round p o fs w t rest = refl
read_close square p o fs w t rest = refl

-- a tree is read off its spelling, whatever waits for it and stands around it
pub read_tree : (t : Tree) (p : Sentence) (o : Owner) (fs : List Frame) (w : Wait) (rest : List Sort) → Well t → asked w ≤ level t → Still rest →
    reads (operand p o fs w) (spell t ++ rest) ≡ reads (after p o fs (fill w t)) rest
unfolding fill
read_tree (atom l) p o fs w rest good h still = step (operand p o fs w) (leaf_sort l) (starts (leaf l)) (after p o fs (fill w (atom l))) rest (role_leaf l) (unfold feed in refl)
read_tree (inside b t) p o fs w rest good h still =
    step (operand p o fs w) (open_sort b) (starts (opens b)) (operand p o (record { bracket = b; waits = w } ∷ fs) nothing) ((spell t ++ (close_sort b ∷ [])) ++ rest) (role_open b) (unfold feed in refl)
    ∙ ap (reads (operand p o (record { bracket = b; waits = w } ∷ fs) nothing)) (append_assoc (spell t) (close_sort b ∷ []) rest)
    ∙ read_tree t p o (record { bracket = b; waits = w } ∷ fs) nothing (close_sort b ∷ rest) good (omega arith) (still_close b rest)
    ∙ read_close b p o fs w t rest
read_tree (tilde t) p o fs w rest good h still =
    step (operand p o fs w) Tilde complements (operand p o fs (tilded w)) (spell t ++ rest) refl (unfold feed in refl)
    ∙ read_tree t p o fs (tilded w) rest good.0 good.1 still
read_tree (ended t s) p o fs w rest good h still =
    ap (reads (operand p o fs w)) (append_assoc (spell t) (post_sort s ∷ []) rest)
    ∙ read_tree t p o fs w (post_sort s ∷ rest) good.0 (omega (arith, good.1, asked_most w)) (still_post s rest)
    ∙ read_post s p o fs (fill w t) rest still
    ∙ ap (λ x. reads (after p o fs x) rest) (suffix_fill w t s ∙ ap (fill w) (suffix_tight t s good.1))
read_tree (joined i l r) p o fs w rest good h still =
    ap (reads (operand p o fs w)) (append_assoc (spell l) (infix_sort i ∷ spell r) rest)
    ∙ read_tree l p o fs w (infix_sort i ∷ (spell r ++ rest)) good.0 (omega (arith, h, good.2)) (still_infix i (spell r ++ rest))
    ∙ read_infix i r p o fs (fill w l) rest good.1 good.3
    ∙ read_tree r p o fs (behind (fill w l) i) rest good.1 good.3 still
    ∙ ap (λ x. reads (after p o fs x) rest) (insert_fill w l i r h good.2)

-- the sorts end, or begin a statement
abbrev pub OpensSpeech : Speech → Type 0
OpensSpeech lets = Unit {0}
OpensSpeech flags = Unit {0}
OpensSpeech (words w) = Unit {0}
OpensSpeech r = ⊥

abbrev pub OpensRole : Role → Type 0
OpensRole (starts s) = ⊥
OpensRole (goes g) = ⊥
OpensRole complements = Unit {0}
OpensRole (speaks s) = OpensSpeech s

abbrev pub Opens : List Sort → Type 0
Opens [] = Unit {0}
Opens (s ∷ ts) = OpensRole (role s)

pub opens_still : (ts : List Sort) → Opens ts → Still ts
opens_still [] h = tt
opens_still (s ∷ ts) h = go (role s) h
  where
    go : (r : Role) → OpensRole r → StillRole r
    go (starts s) h = h
    go r h = tt

-- a statement ends where the next begins, or the text ends
pub leave : (p : Sentence) (o : Owner) (t : Tree) (s : Statement) (rest : List Sort) → finish o t ≡ Some s → Opens rest → reads (after p o [] t) rest ≡ reads (ready (also p s)) rest
unfolding reads accept feed
leave p o t s [] e h = ap (λ x. onto x (λ s. Some (also p s))) e
leave p o t s (a ∷ rest) e h = ap (λ x. onto x (λ d. reads d rest)) (go (role a) h)
  where
    from : (r : Role) → leaving p o t r ≡ from_ready (also p s) r
    from r = ap (λ x. onto x (λ s. from_ready (also p s) r)) e

    said : (a : Speech) → OpensSpeech a → spoken p o t a ≡ opening (also p s) a
    said lets h = from (speaks lets)
    said flags h = from (speaks flags)
    said (words w) h = from (speaks (words w))
    said a h = elim h [ ]

    go : (r : Role) → OpensRole r → feed (after p o [] t) r ≡ feed (ready (also p s)) r
    go (starts a) h = elim h [ ]
    go (goes g) h = elim h [ ]
    go complements h = from complements
    go (speaks a) h = said a h
