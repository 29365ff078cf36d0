-- What a state of the machine stands for: the sorts taken so far, and that its trees are well grouped. Assumes nothing.
use Rattle.std.proofs.Common.{◌≡◌, ℕ, ◌≤◌, Bool, true, false, leb, List, [], ◌∷◌, ◌++◌, Some, None, Option, sym, refl, ap, ◌∙◌, append_assoc, arith}
use Rattle.sentence.specs.declared.sort.Sort.{Sort}
use Rattle.sentence.specs.declared.sort.Sort.TheVariants.{Let, Rec, Name, Equals, And, Flag, As, Tilde, Star}
use Rattle.sentence.specs.Trees.{Infix, Post, Tree, atom, inside, tilde, ended, joined, open_sort, infix_sort, post_sort, spell, rank, level, bound, Well, word_sort, negation, Sentence, spell_binding, spell_more, spell_text, AllWell, WellStatements}
use Rattle.sentence.specs.Machine.{insert, suffix, fill, asked, Wait, nothing, behind, tilded, Frame, Binding, single, first, more, Owner, of_binding, of_check, State, begun, ready, let_seen, name_due, equals_due, flag_seen, tilde_seen, label_due, operand, after, starred}
use Rattle.sentence.proofs.Inserts.{rank_most, bound_within, insert_tight, insert_loose, order}

-- a sign and a tree are written behind
pub spell_insert : (q : Tree) (i : Infix) (v : Tree) → spell (insert q i v) ≡ spell q ++ (infix_sort i ∷ spell v)
spell_insert (atom l) i v = unfold insert in refl
spell_insert (inside b t) i v = unfold insert in refl
spell_insert (tilde t) i v = unfold insert in refl
spell_insert (ended t p) i v = unfold insert in refl
spell_insert (joined j a b) i v =
    let ih = spell_insert b i v in
    order (rank i) (rank j) (leb (rank i) (rank j)) refl (spell (insert (joined j a b) i v) ≡ spell (joined j a b) ++ (infix_sort i ∷ spell v))
    (λ h. ap spell (insert_tight (joined j a b) i v h))
    (λ h. ap spell (insert_loose j a b i v h) ∙ ap (λ x. spell a ++ (infix_sort j ∷ x)) ih ∙ sym (append_assoc (spell a) (infix_sort j ∷ spell b) (infix_sort i ∷ spell v)))

pub spell_suffix : (t : Tree) (s : Post) → spell (suffix t s) ≡ spell t ++ (post_sort s ∷ [])
unfolding suffix
spell_suffix (tilde t) s = ap (λ x. Tilde ∷ x) (spell_suffix t s)
spell_suffix (joined j a b) s = ap (λ x. spell a ++ (infix_sort j ∷ x)) (spell_suffix b s) ∙ sym (append_assoc (spell a) (infix_sort j ∷ spell b) (post_sort s ∷ []))
spell_suffix t s = refl

-- what waits, as it is written
abbrev pub spell_wait : Wait → List Sort
spell_wait nothing = []
spell_wait (behind t i) = spell t ++ (infix_sort i ∷ [])
spell_wait (tilded w) = spell_wait w ++ (Tilde ∷ [])

pub spell_fill : (w : Wait) (t : Tree) → spell (fill w t) ≡ spell_wait w ++ spell t
unfolding fill
spell_fill nothing t = refl
spell_fill (behind q i) t = spell_insert q i t ∙ sym (append_assoc (spell q) (infix_sort i ∷ []) (spell t))
spell_fill (tilded w) t = spell_fill w (tilde t) ∙ sym (append_assoc (spell_wait w) (Tilde ∷ []) (spell t))

-- insertion makes nothing looser than the sign
insert_level : (q : Tree) (i : Infix) (v : Tree) (n : ℕ) → n ≤ rank i → n ≤ level q → n ≤ level (insert q i v)
insert_level (atom l) i v n h k = unfold insert in h
insert_level (inside b t) i v n h k = unfold insert in h
insert_level (tilde t) i v n h k = unfold insert in h
insert_level (ended t p) i v n h k = unfold insert in h
insert_level (joined j a b) i v n h k =
    order (rank i) (rank j) (leb (rank i) (rank j)) refl (n ≤ level (insert (joined j a b) i v))
    (λ g. rw (insert_tight (joined j a b) i v g) h)
    (λ g. rw (insert_loose j a b i v g) k)

-- insertion keeps the grouping
pub well_insert : (q : Tree) (i : Infix) (v : Tree) → Well q → Well v → bound i ≤ level v → Well (insert q i v)
well_insert q i v good fine h = go q good
  where
    here : (q : Tree) → Well q → rank i ≤ level q → Well (insert q i v)
    here q good k = rw (insert_tight q i v k) (good, fine, k, h)

    go : (q : Tree) → Well q → Well (insert q i v)
    go (atom l) good = here (atom l) good (omega (arith, rank_most i))
    go (inside b t) good = here (inside b t) good (omega (arith, rank_most i))
    go (tilde t) good = here (tilde t) good (omega (arith, rank_most i))
    go (ended t p) good = here (ended t p) good (omega (arith, rank_most i))
    go (joined j a b) good =
        let ih = go b good.1 in
        order (rank i) (rank j) (leb (rank i) (rank j)) refl (Well (insert (joined j a b) i v)) (here (joined j a b) good)
        (λ k. rw (insert_loose j a b i v k) (good.0, ih, good.2, insert_level b i v (bound j) (bound_within j i k) good.3))

-- a sign behind keeps how tightly a tree holds together, and its grouping
level_suffix : (t : Tree) (s : Post) → level (suffix t s) ≡ level t
unfolding suffix
level_suffix (atom l) s = refl
level_suffix t s = refl

pub well_suffix : (t : Tree) (s : Post) → Well t → Well (suffix t s)
unfolding suffix
well_suffix (tilde t) s w = (well_suffix t s w.0, omega (arith, level_suffix t s, w.1))
well_suffix (joined j a b) s w = (w.0, well_suffix b s w.1, w.2, omega (arith, level_suffix b s, w.3))
well_suffix t s w = (w, omega arith)

-- what waits is well grouped
abbrev pub WellWait : Wait → Type 0
WellWait nothing = Unit {0}
WellWait (behind t i) = Well t
WellWait (tilded w) = WellWait w × (asked w ≤ 6)

pub well_fill : (w : Wait) (t : Tree) → WellWait w → Well t → asked w ≤ level t → Well (fill w t)
unfolding fill
well_fill nothing t g h k = h
well_fill (behind q i) t g h k = well_insert q i t g h k
well_fill (tilded w) t g h k = well_fill w (tilde t) g.0 (h, k) g.1

-- open brackets, the innermost first, as they are written
abbrev pub spell_frames : List Frame → List Sort
spell_frames [] = []
spell_frames (f ∷ fs) = spell_frames fs ++ (spell_wait f.waits ++ (open_sort f.bracket ∷ []))

abbrev pub WellFrames : List Frame → Type 0
WellFrames [] = Unit {0}
WellFrames (f ∷ fs) = WellWait f.waits × WellFrames fs

-- a statement before a binding's name
abbrev pub spell_before : Binding → List Sort
spell_before single = Let ∷ []
spell_before first = Let ∷ (Rec ∷ [])
spell_before (more t ts) = (Let ∷ (Rec ∷ (spell_binding t ++ spell_more ts))) ++ (And ∷ [])

abbrev pub flagging : Bool → List Sort
flagging true = Flag ∷ []
flagging false = []

-- a statement before its expression
abbrev pub spell_owner : Owner → List Sort
spell_owner (of_binding b) = spell_before b ++ (Name ∷ (Equals ∷ []))
spell_owner (of_check f n w) = flagging f ++ (negation n ++ (word_sort w ∷ []))

abbrev pub WellOwner : Owner → Type 0
WellOwner (of_binding (more t ts)) = Well t × AllWell ts
WellOwner r = Unit {0}

-- the part of a state's sorts that stands behind the sentence so far
abbrev pub outside : Sentence → Owner → List Frame → List Sort
outside p o fs = spell_text p ++ (spell_owner o ++ spell_frames fs)

abbrev pub said : State → List Sort
said begun = []
said (ready p) = spell_text p
said (let_seen p) = spell_text p ++ (Let ∷ [])
said (name_due p b) = spell_text p ++ spell_before b
said (equals_due p b) = spell_text p ++ (spell_before b ++ (Name ∷ []))
said (flag_seen p) = spell_text p ++ (Flag ∷ [])
said (tilde_seen p f) = spell_text p ++ (flagging f ++ (Tilde ∷ []))
said (label_due p f n w t) = outside p (of_check f n w) [] ++ (spell t ++ (As ∷ []))
said (operand p o fs w) = outside p o fs ++ spell_wait w
said (after p o fs t) = outside p o fs ++ spell t
said (starred p o fs t) = outside p o fs ++ (spell t ++ (Star ∷ []))

-- around an expression all is well grouped
pub record Around (p : Sentence) (o : Owner) (fs : List Frame) : Type 0 where
  pub past : WellStatements p.statements
  pub owner : WellOwner o
  pub frames : WellFrames fs

-- the trees of a state are well grouped; a prefix may come only where it may stand
abbrev pub Sane : State → Type 0
Sane begun = Unit {0}
Sane (ready p) = WellStatements p.statements
Sane (let_seen p) = WellStatements p.statements
Sane (name_due p b) = Around p (of_binding b) []
Sane (equals_due p b) = Around p (of_binding b) []
Sane (flag_seen p) = WellStatements p.statements
Sane (tilde_seen p f) = WellStatements p.statements
Sane (label_due p f n w t) = WellStatements p.statements × Well t
Sane (operand p o fs w) = Around p o fs × WellWait w × (asked w ≤ 6)
Sane (after p o fs t) = Around p o fs × Well t
Sane (starred p o fs t) = Around p o fs × Well t

-- a state, if there is one, stands for these sorts
abbrev pub Stands : List Sort → Option State → Type 0
Stands ts None = Unit {0}
Stands ts (Some c) = Sane c × (said c ≡ ts)
