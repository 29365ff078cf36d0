-- The machine reads every well grouped sentence off its spelling, so that sorts have one sentence at most. Assumes nothing.
use Rattle.std.proofs.Common.{◌≡◌, Bool, true, false, List, [], ◌∷◌, ◌++◌, Some, sym, refl, ap, ◌∙◌, append_assoc, append-nil, arith}
use Rattle.sentence.specs.declared.sort.Sort.{Sort}
use Rattle.sentence.specs.Trees.{Tree, spell, Well, Word, acyclic, Mark, plain, labelled, flagged, Statement, binds, groups, checks, Sentence, mark_front, mark_back, negation, word_sort, spell_more, spell_statement, spell_statements, spell_text, AllWell, WellStatement, WellStatements}
use Rattle.sentence.specs.Texts.{Writes}
use Rattle.sentence.specs.Laws.{OneTree}
use Rattle.sentence.specs.Machine.{Speech, titles, words, Role, speaks, role, fill, nothing, Binding, single, first, more, of_binding, of_check, begun, ready, tilde_seen, flag_seen, operand, after, also, blank, onto, opening, feed, accept, reads}
use Rattle.sentence.proofs.Expressions.{Still, Opens, OpensRole, OpensSpeech, opens_still, role_word, step, read_tree, leave}

-- what follows a binding in its group begins no atom
still_more : (ts : List Tree) (rest : List Sort) → Opens rest → Still (spell_more ts ++ rest)
still_more [] rest h = opens_still rest h
still_more (t ∷ ts) rest h = tt

-- the expression of a binding
read_binding : (p : Sentence) (b : Binding) (t : Tree) (rest : List Sort) → Well t → Still rest →
    reads (operand p (of_binding b) [] nothing) (spell t ++ rest) ≡ reads (after p (of_binding b) [] t) rest
unfolding fill
read_binding p b t rest w h = read_tree t p (of_binding b) [] nothing rest w (omega arith) h

-- the bindings that follow in a group, behind a later one
read_more : (ts : List Tree) (p : Sentence) (u : Tree) (us : List Tree) (t : Tree) (rest : List Sort) → AllWell ts → Opens rest →
    reads (after p (of_binding (more u us)) [] t) (spell_more ts ++ rest) ≡ reads (ready (also p (groups u (us ++ (t ∷ ts))))) rest
unfolding reads feed
read_more [] p u us t rest w h = leave p (of_binding (more u us)) t (groups u (us ++ (t ∷ []))) rest refl h
read_more (v ∷ vs) p u us t rest w h =
    ap (reads (operand p (of_binding (more u (us ++ (t ∷ [])))) [] nothing)) (append_assoc (spell v) (spell_more vs) rest)
    ∙ read_binding p (more u (us ++ (t ∷ []))) v (spell_more vs ++ rest) w.0 (still_more vs rest h)
    ∙ read_more vs p u (us ++ (t ∷ [])) v rest w.1 h
    ∙ ap (λ x. reads (ready (also p (groups u x))) rest) (append_assoc us (t ∷ []) (v ∷ vs))

-- and behind the first
read_group : (ts : List Tree) (p : Sentence) (t : Tree) (rest : List Sort) → AllWell ts → Opens rest →
    reads (after p (of_binding first) [] t) (spell_more ts ++ rest) ≡ reads (ready (also p (groups t ts))) rest
unfolding reads feed
read_group [] p t rest w h = leave p (of_binding first) t (groups t []) rest refl h
read_group (v ∷ vs) p t rest w h =
    ap (reads (operand p (of_binding (more t [])) [] nothing)) (append_assoc (spell v) (spell_more vs) rest)
    ∙ read_binding p (more t []) v (spell_more vs ++ rest) w.0 (still_more vs rest h)
    ∙ read_more vs p t [] v rest w.1 h

-- whether a check has its flag
abbrev flag_of : Mark → Bool
flag_of plain = false
flag_of labelled = false
flag_of flagged = true

-- a check up to its expression
read_front : (m : Mark) (n : Bool) (w : Word) (p : Sentence) (rest : List Sort) →
    reads (ready p) (mark_front m ++ (negation n ++ (word_sort w ∷ rest))) ≡ reads (operand p (of_check (flag_of m) n w) [] nothing) rest
unfolding reads feed
read_front plain true w p rest = step (tilde_seen p false) (word_sort w) (speaks (words w)) (operand p (of_check false true w) [] nothing) rest (role_word w) refl
read_front plain false w p rest = step (ready p) (word_sort w) (speaks (words w)) (operand p (of_check false false w) [] nothing) rest (role_word w) refl
read_front labelled true w p rest = step (tilde_seen p false) (word_sort w) (speaks (words w)) (operand p (of_check false true w) [] nothing) rest (role_word w) refl
read_front labelled false w p rest = step (ready p) (word_sort w) (speaks (words w)) (operand p (of_check false false w) [] nothing) rest (role_word w) refl
read_front flagged true w p rest = step (tilde_seen p true) (word_sort w) (speaks (words w)) (operand p (of_check true true w) [] nothing) rest (role_word w) refl
read_front flagged false w p rest = step (flag_seen p) (word_sort w) (speaks (words w)) (operand p (of_check true false w) [] nothing) rest (role_word w) refl

-- and behind it
read_back : (m : Mark) (n : Bool) (w : Word) (p : Sentence) (t : Tree) (rest : List Sort) → Opens rest →
    reads (after p (of_check (flag_of m) n w) [] t) (mark_back m ++ rest) ≡ reads (ready (also p (checks m n w t))) rest
unfolding reads feed
read_back plain n w p t rest h = leave p (of_check false n w) t (checks plain n w t) rest refl h
read_back labelled n w p t rest h = refl
read_back flagged n w p t rest h = refl

still_back : (m : Mark) (rest : List Sort) → Opens rest → Still (mark_back m ++ rest)
still_back plain rest h = opens_still rest h
still_back labelled rest h = tt
still_back flagged rest h = tt

-- a statement is read off its spelling
read_statement : (s : Statement) (p : Sentence) (rest : List Sort) → WellStatement s → Opens rest → reads (ready p) (spell_statement s ++ rest) ≡ reads (ready (also p s)) rest
unfolding reads feed fill
read_statement (binds t) p rest w h = read_binding p single t rest w (opens_still rest h) ∙ leave p (of_binding single) t (binds t) rest refl h
read_statement (groups t ts) p rest w h =
    ap (reads (operand p (of_binding first) [] nothing)) (append_assoc (spell t) (spell_more ts) rest)
    ∙ read_binding p first t (spell_more ts ++ rest) w.0 (still_more ts rest h)
    ∙ read_group ts p t rest w.1 h
read_statement (checks m n w t) p rest good h =
    ap (reads (ready p)) (regroup (mark_front m) (negation n) (word_sort w) (spell t) (mark_back m))
    ∙ read_front m n w p (spell t ++ (mark_back m ++ rest))
    ∙ read_tree t p (of_check (flag_of m) n w) [] nothing (mark_back m ++ rest) good (omega arith) (still_back m rest h)
    ∙ read_back m n w p t rest h
  where
    regroup : (a b : List Sort) (c : Sort) (d e : List Sort) → (a ++ (b ++ (c ∷ (d ++ e)))) ++ rest ≡ a ++ (b ++ (c ∷ (d ++ (e ++ rest))))
    regroup a b c d e = append_assoc a (b ++ (c ∷ (d ++ e))) rest ∙ ap (λ x. a ++ x) (append_assoc b (c ∷ (d ++ e)) rest ∙ ap (λ x. b ++ (c ∷ x)) (append_assoc d e rest))

-- statements begin with what begins a statement
opens_word : (w : Word) (rest : List Sort) → Opens (word_sort w ∷ rest)
opens_word acyclic rest = tt
opens_word w rest = tt

opens_check : (m : Mark) (n : Bool) (w : Word) (rest : List Sort) → Opens (mark_front m ++ (negation n ++ (word_sort w ∷ rest)))
opens_check plain false w rest = opens_word w rest
opens_check labelled false w rest = opens_word w rest
opens_check m n w rest = tt

opens_more : (ts rest : List Sort) → Opens rest → Opens ts → Opens (ts ++ rest)
opens_more [] rest h k = h
opens_more (s ∷ ts) rest h k = k

pub opens_statements : (ss : List Statement) → Opens (spell_statements ss)
opens_statements (checks m n w t ∷ ss) = opens_more (spell_statement (checks m n w t)) (spell_statements ss) (opens_statements ss) (opens_check m n w (spell t ++ mark_back m))
opens_statements ss = tt

-- statements are read off their spelling
read_statements : (ss : List Statement) (p : Sentence) → WellStatements ss → reads (ready p) (spell_statements ss) ≡ Some (record { titled = p.titled; statements = p.statements ++ ss })
unfolding reads accept
read_statements [] p w = ap (λ x. Some (record { titled = p.titled; statements = x })) (sym (append-nil p.statements))
read_statements (s ∷ ss) p w =
    read_statement s p (spell_statements ss) w.0 (opens_statements ss)
    ∙ read_statements ss (also p s) w.1
    ∙ ap (λ x. Some (record { titled = p.titled; statements = x })) (append_assoc p.statements (s ∷ []) ss)

-- a text may begin without a title
begun_ready : (ts : List Sort) → Opens ts → reads begun ts ≡ reads (ready (blank false)) ts
unfolding reads accept feed
begun_ready [] h = refl
begun_ready (s ∷ ts) h = ap (λ x. onto x (λ d. reads d ts)) (go (role s) h)
  where
    said : (a : Speech) → OpensSpeech a → feed begun (speaks a) ≡ opening (blank false) a
    said titles h = elim h [ ]
    said a h = refl

    go : (r : Role) → OpensRole r → feed begun r ≡ feed (ready (blank false)) r
    go (speaks a) h = said a h
    go r h = refl

-- a sentence is read off its spelling
pub read_text : (x : Sentence) → WellStatements x.statements → reads begun (spell_text x) ≡ Some x
unfolding reads feed
read_text x w = go x.titled x.statements w
  where
    go : (b : Bool) (ss : List Statement) → WellStatements ss → reads begun (spell_text (record { titled = b; statements = ss })) ≡ Some (record { titled = b; statements = ss })
    go true ss w = read_statements ss (blank true) w
    go false ss w = begun_ready (spell_statements ss) (opens_statements ss) ∙ read_statements ss (blank false) w

pub read_written : (ts : List Sort) (x : Sentence) → Writes ts x → reads begun ts ≡ Some x
read_written ts x h = ap (reads begun) (sym h.spells) ∙ read_text x h.well

-- so there is one sentence at most
pub one_tree : OneTree
one_tree ts x y g h = let a = read_written ts x g in let b = read_written ts y h in cc
