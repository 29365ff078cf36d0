-- The star rule: what follows a star says what it is. Assumes nothing.
use Rattle.std.proofs.Common.{◌≡◌, ◌≤◌, Bool, true, false, List, [], ◌∷◌, ◌++◌, map, sym, refl, ap, ◌∙◌, subst, inl, inr, append_assoc, arith}
use Rattle.sentence.specs.declared.sort.Sort.{Sort}
use Rattle.sentence.specs.declared.sort.Sort.TheVariants.{Name, Let, Rec, And, Flag, As, Title, Star, Tilde, Equals}
use Rattle.sentence.specs.Trees.{Leaf, name, universe, no_pairs, no_events, Bracket, round, square, leaf_sort, open_sort, close_sort, post_sort, infix_sort, word_sort, mark_front, mark_back, negation, heading, Post, plus, closure, question, inverse, Infix, bar, semicolon, backslash, ampersand, product, Tree, atom, inside, tilde, ended, joined, spell, level, bound, Well, Word, acyclic, irreflexive, empty, Mark, plain, labelled, flagged, Statement, binds, groups, checks, Sentence, spell_more, spell_statement, spell_statements, AllWell, WellStatement, WellStatements}
use Rattle.sentence.specs.Stars.{Sign, other, sign_sort, post_sign, infix_sign, signs, signs_more, signs_statement, signs_statements, signs_text, atom_sorts, OneOf, AtomFirst, ToldBy}
use Rattle.sentence.specs.Machine.{Role, goes, joins, role}
use Rattle.sentence.specs.Laws.{SameSorts, StarRule}
use Rattle.sentence.proofs.Inserts.{rank_most}
use Rattle.sentence.proofs.Expressions.{StillRole}

-- the sorts of two parts
sorts_append : (a b : List Sign) → map sign_sort (a ++ b) ≡ map sign_sort a ++ map sign_sort b
sorts_append [] b = refl
sorts_append (s ∷ a) b = ap (λ x. sign_sort s ∷ x) (sorts_append a b)

sorts_others : (ts : List Sort) → map sign_sort (map other ts) ≡ ts
sorts_others [] = refl
sorts_others (s ∷ ts) = ap (λ x. s ∷ x) (sorts_others ts)

sort_post : (p : Post) → sign_sort (post_sign p) ≡ post_sort p
sort_post plus = refl
sort_post p = refl

sort_infix : (i : Infix) → sign_sort (infix_sign i) ≡ infix_sort i
sort_infix bar = refl
sort_infix i = refl

-- the signs of a tree are written as the tree is
sorts_tree : (t : Tree) → map sign_sort (signs t) ≡ spell t
sorts_tree (atom l) = refl
sorts_tree (inside b t) = ap (λ x. open_sort b ∷ x) (sorts_append (signs t) (other (close_sort b) ∷ []) ∙ ap (λ x. x ++ (close_sort b ∷ [])) (sorts_tree t))
sorts_tree (tilde t) = ap (λ x. Tilde ∷ x) (sorts_tree t)
sorts_tree (ended t p) = sorts_append (signs t) (post_sign p ∷ []) ∙ ap (λ x. x ++ (sign_sort (post_sign p) ∷ [])) (sorts_tree t) ∙ ap (λ x. spell t ++ (x ∷ [])) (sort_post p)
sorts_tree (joined i l r) =
    sorts_append (signs l) (infix_sign i ∷ signs r)
    ∙ ap (λ x. x ++ (sign_sort (infix_sign i) ∷ map sign_sort (signs r))) (sorts_tree l)
    ∙ ap (λ x. spell l ++ (x ∷ map sign_sort (signs r))) (sort_infix i)
    ∙ ap (λ x. spell l ++ (infix_sort i ∷ x)) (sorts_tree r)

sorts_more : (ts : List Tree) → map sign_sort (signs_more ts) ≡ spell_more ts
sorts_more [] = refl
sorts_more (t ∷ ts) = ap (λ x. And ∷ (Name ∷ (Equals ∷ x))) (sorts_append (signs t) (signs_more ts) ∙ ap (λ x. x ++ map sign_sort (signs_more ts)) (sorts_tree t) ∙ ap (λ x. spell t ++ x) (sorts_more ts))

sorts_statement : (s : Statement) → map sign_sort (signs_statement s) ≡ spell_statement s
sorts_statement (binds t) = ap (λ x. Let ∷ (Name ∷ (Equals ∷ x))) (sorts_tree t)
sorts_statement (groups t ts) = ap (λ x. Let ∷ (Rec ∷ (Name ∷ (Equals ∷ x)))) (sorts_append (signs t) (signs_more ts) ∙ ap (λ x. x ++ map sign_sort (signs_more ts)) (sorts_tree t) ∙ ap (λ x. spell t ++ x) (sorts_more ts))
sorts_statement (checks m n w t) = simp (sorts_append, sorts_others, sorts_tree)

sorts_statements : (ss : List Statement) → map sign_sort (signs_statements ss) ≡ spell_statements ss
sorts_statements [] = refl
sorts_statements (s ∷ ss) = sorts_append (signs_statement s) (signs_statements ss) ∙ ap (λ x. x ++ map sign_sort (signs_statements ss)) (sorts_statement s) ∙ ap (λ x. spell_statement s ++ x) (sorts_statements ss)

pub same_sorts : SameSorts
same_sorts x =
    sorts_append (map other (heading x.titled)) (signs_statements x.statements)
    ∙ ap (λ y. y ++ map sign_sort (signs_statements x.statements)) (sorts_others (heading x.titled))
    ∙ ap (λ y. heading x.titled ++ y) (sorts_statements x.statements)

-- what can begin an atom has the role of a start
not_still : (s : Sort) → StillRole (role s) → OneOf s atom_sorts → ⊥
not_still s h (inl e) = subst (λ x. StillRole (role x)) e h
not_still s h (inr (inl e)) = subst (λ x. StillRole (role x)) e h
not_still s h (inr (inr (inl e))) = subst (λ x. StillRole (role x)) e h
not_still s h (inr (inr (inr (inl e)))) = subst (λ x. StillRole (role x)) e h
not_still s h (inr (inr (inr (inr (inl e))))) = subst (λ x. StillRole (role x)) e h
not_still s h (inr (inr (inr (inr (inr (inl e)))))) = subst (λ x. StillRole (role x)) e h
not_still s h (inr (inr (inr (inr (inr (inr e)))))) = e

leaf_begins : (l : Leaf) → OneOf (leaf_sort l) atom_sorts
leaf_begins name = inl refl
leaf_begins universe = inr (inl refl)
leaf_begins no_pairs = inr (inr (inl refl))
leaf_begins no_events = inr (inr (inr (inl refl)))

open_begins : (b : Bracket) → OneOf (open_sort b) atom_sorts
open_begins round = inr (inr (inr (inr (inl refl))))
open_begins square = inr (inr (inr (inr (inr (inl refl)))))

-- the signs begin no atom
abbrev Quiet : List Sign → Type 0
Quiet [] = Unit {0}
Quiet (s ∷ rest) = StillRole (role (sign_sort s))

quiet_first : (rest : List Sign) → Quiet rest → AtomFirst rest → ⊥
quiet_first [] h a = a
quiet_first (s ∷ rest) h a = not_still (sign_sort s) h a

-- every sign is told by what follows it
abbrev AllTold : List Sign → Type 0
AllTold [] = Unit {0}
AllTold (s ∷ rest) = ToldBy s rest × AllTold rest

leaf_told : (l : Leaf) → leaf_sort l ≡ Star → ⊥
leaf_told l e = not_still (leaf_sort l) (subst (λ x. StillRole (role x)) (sym e) tt) (leaf_begins l)

open_told : (b : Bracket) → open_sort b ≡ Star → ⊥
open_told b e = not_still (open_sort b) (subst (λ x. StillRole (role x)) (sym e) tt) (open_begins b)

-- a closing bracket and a word of statements are no stars
abbrev PlainRole : Role → Type 0
PlainRole (goes (joins product)) = ⊥
PlainRole r = Unit {0}

plain_told : (s : Sort) → PlainRole (role s) → s ≡ Star → ⊥
plain_told s h e = subst (λ x. PlainRole (role x)) e h

close_told : (b : Bracket) → close_sort b ≡ Star → ⊥
close_told round = plain_told (close_sort round) tt
close_told square = plain_told (close_sort square) tt

word_told : (w : Word) → word_sort w ≡ Star → ⊥
word_told acyclic = plain_told (word_sort acyclic) tt
word_told irreflexive = plain_told (word_sort irreflexive) tt
word_told empty = plain_told (word_sort empty) tt

quiet_close : (b : Bracket) (rest : List Sign) → Quiet (other (close_sort b) ∷ rest)
quiet_close round rest = tt
quiet_close square rest = tt

quiet_post : (p : Post) (rest : List Sign) → Quiet (post_sign p ∷ rest)
quiet_post plus rest = tt
quiet_post p rest = tt

quiet_infix : (i : Infix) (rest : List Sign) → Quiet (infix_sign i ∷ rest)
quiet_infix bar rest = tt
quiet_infix i rest = tt

-- a sign behind an operand is told by what begins no atom
post_told : (p : Post) (rest : List Sign) → Quiet rest → ToldBy (post_sign p) rest
post_told plus rest h = plain_told (post_sort plus) tt
post_told closure rest h = quiet_first rest h
post_told question rest h = plain_told (post_sort question) tt
post_told inverse rest h = plain_told (post_sort inverse) tt

-- what holds together begins an atom
tight_first : (t : Tree) (rest : List Sign) → Well t → 7 ≤ level t → AtomFirst (signs t ++ rest)
tight_first (atom l) rest w h = leaf_begins l
tight_first (inside b t) rest w h = open_begins b
tight_first (tilde t) rest w h = absurd (omega arith)
tight_first (ended t p) rest w h = rw (append_assoc (signs t) (post_sign p ∷ []) rest) (tight_first t (post_sign p ∷ rest) w.0 w.1)
tight_first (joined i l r) rest w h = absurd (omega (arith, rank_most i))

-- an infix sign is told by its right operand
infix_told : (i : Infix) (r : Tree) (rest : List Sign) → Well r → bound i ≤ level r → ToldBy (infix_sign i) (signs r ++ rest)
infix_told bar r rest w h = plain_told (infix_sort bar) tt
infix_told semicolon r rest w h = plain_told (infix_sort semicolon) tt
infix_told backslash r rest w h = plain_told (infix_sort backslash) tt
infix_told ampersand r rest w h = plain_told (infix_sort ampersand) tt
infix_told product r rest w h = tight_first r rest w h

-- nothing that begins an atom follows an expression: then all its signs are told
told_tree : (t : Tree) (rest : List Sign) → Well t → Quiet rest → AllTold rest → AllTold (signs t ++ rest)
told_tree (atom l) rest w q h = (leaf_told l, h)
told_tree (inside b t) rest w q h = (open_told b, rw (append_assoc (signs t) (other (close_sort b) ∷ []) rest) (told_tree t (other (close_sort b) ∷ rest) w (quiet_close b rest) (close_told b, h)))
told_tree (tilde t) rest w q h = (plain_told Tilde tt, told_tree t rest w.0 q h)
told_tree (ended t p) rest w q h = rw (append_assoc (signs t) (post_sign p ∷ []) rest) (told_tree t (post_sign p ∷ rest) w.0 (quiet_post p rest) (post_told p rest q, h))
told_tree (joined i l r) rest w q h =
    rw (append_assoc (signs l) (infix_sign i ∷ signs r) rest)
    (told_tree l (infix_sign i ∷ (signs r ++ rest)) w.0 (quiet_infix i (signs r ++ rest)) (infix_told i r rest w.1 w.3, told_tree r rest w.1 q h))

-- a binding behind its first word
told_binding : (t : Tree) (rest : List Sign) → Well t → Quiet rest → AllTold rest → AllTold (other Name ∷ (other Equals ∷ (signs t ++ rest)))
told_binding t rest w q h = (plain_told Name tt, (plain_told Equals tt, told_tree t rest w q h))

quiet_more : (ts : List Tree) (rest : List Sign) → Quiet rest → Quiet (signs_more ts ++ rest)
quiet_more [] rest q = q
quiet_more (t ∷ ts) rest q = tt

told_more : (ts : List Tree) (rest : List Sign) → AllWell ts → Quiet rest → AllTold rest → AllTold (signs_more ts ++ rest)
told_more [] rest w q h = h
told_more (t ∷ ts) rest w q h =
    rw (append_assoc (signs t) (signs_more ts) rest)
    (plain_told And tt, told_binding t (signs_more ts ++ rest) w.0 (quiet_more ts rest q) (told_more ts rest w.1 q h))

-- a check before its expression, and behind it
told_front : (m : Mark) (n : Bool) (w : Word) (rest : List Sign) → AllTold rest → AllTold (map other (mark_front m) ++ (map other (negation n) ++ (other (word_sort w) ∷ rest)))
told_front plain true w rest h = (plain_told Tilde tt, (word_told w, h))
told_front plain false w rest h = (word_told w, h)
told_front labelled true w rest h = (plain_told Tilde tt, (word_told w, h))
told_front labelled false w rest h = (word_told w, h)
told_front flagged true w rest h = (plain_told Flag tt, (plain_told Tilde tt, (word_told w, h)))
told_front flagged false w rest h = (plain_told Flag tt, (word_told w, h))

told_back : (m : Mark) (rest : List Sign) → AllTold rest → AllTold (map other (mark_back m) ++ rest)
told_back plain rest h = h
told_back labelled rest h = (plain_told As tt, (plain_told Name tt, h))
told_back flagged rest h = (plain_told As tt, (plain_told Name tt, h))

quiet_back : (m : Mark) (rest : List Sign) → Quiet rest → Quiet (map other (mark_back m) ++ rest)
quiet_back plain rest q = q
quiet_back labelled rest q = tt
quiet_back flagged rest q = tt

told_statement : (s : Statement) (rest : List Sign) → WellStatement s → Quiet rest → AllTold rest → AllTold (signs_statement s ++ rest)
told_statement (binds t) rest w q h = (plain_told Let tt, told_binding t rest w q h)
told_statement (groups t ts) rest w q h =
    rw (append_assoc (signs t) (signs_more ts) rest)
    (plain_told Let tt, (plain_told Rec tt, told_binding t (signs_more ts ++ rest) w.0 (quiet_more ts rest q) (told_more ts rest w.1 q h)))
told_statement (checks m n w t) rest good q h =
    subst (λ x. AllTold x) (sym (regroup (map other (mark_front m)) (map other (negation n)) (other (word_sort w)) (signs t) (map other (mark_back m))))
    (told_front m n w (signs t ++ (map other (mark_back m) ++ rest)) (told_tree t (map other (mark_back m) ++ rest) good (quiet_back m rest q) (told_back m rest h)))
  where
    regroup : (a b : List Sign) (c : Sign) (d e : List Sign) → (a ++ (b ++ (c ∷ (d ++ e)))) ++ rest ≡ a ++ (b ++ (c ∷ (d ++ (e ++ rest))))
    regroup a b c d e = append_assoc a (b ++ (c ∷ (d ++ e))) rest ∙ ap (λ x. a ++ x) (append_assoc b (c ∷ (d ++ e)) rest ∙ ap (λ x. b ++ (c ∷ x)) (append_assoc d e rest))

-- a statement begins no atom
quiet_word : (w : Word) (rest : List Sign) → Quiet (other (word_sort w) ∷ rest)
quiet_word acyclic rest = tt
quiet_word w rest = tt

quiet_check : (m : Mark) (n : Bool) (w : Word) (rest more : List Sign) → Quiet ((map other (mark_front m) ++ (map other (negation n) ++ (other (word_sort w) ∷ rest))) ++ more)
quiet_check plain false w rest more = quiet_word w (rest ++ more)
quiet_check labelled false w rest more = quiet_word w (rest ++ more)
quiet_check m n w rest more = tt

quiet_statements : (ss : List Statement) → Quiet (signs_statements ss)
quiet_statements (checks m n w t ∷ ss) = quiet_check m n w (signs t ++ map other (mark_back m)) (signs_statements ss)
quiet_statements ss = tt

told_statements : (ss : List Statement) → WellStatements ss → AllTold (signs_statements ss)
told_statements [] w = tt
told_statements (s ∷ ss) w = told_statement s (signs_statements ss) w.0 (quiet_statements ss) (told_statements ss w.1)

told_text : (x : Sentence) → WellStatements x.statements → AllTold (signs_text x)
told_text x w = go x.titled
  where
    go : (b : Bool) → AllTold (map other (heading b) ++ signs_statements x.statements)
    go true = (plain_told Title tt, told_statements x.statements w)
    go false = told_statements x.statements w

-- so each of them is
told_at : (before : List Sign) (s : Sign) (rest : List Sign) → AllTold (before ++ (s ∷ rest)) → ToldBy s rest
told_at [] s rest h = h.0
told_at (a ∷ before) s rest h = told_at before s rest h.1

pub star_rule : StarRule
star_rule x before s rest w e = told_at before s rest (subst (λ y. AllTold y) e (told_text x w))
