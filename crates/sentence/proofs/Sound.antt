-- What the machine takes is what its state stands for, so that what it accepts is a text. Assumes nothing.
use Rattle.std.proofs.Common.{◌≡◌, ◌≤◌, Bool, true, false, List, [], ◌∷◌, ◌++◌, Some, None, Option, sym, refl, ap, ◌∙◌, subst, append_assoc, append-nil, arith}
use Rattle.sentence.specs.declared.sort.Sort.{Sort}
use Rattle.sentence.specs.declared.sort.Sort.TheVariants.{Name, Title, Let, Rec, And, Flag, As, Bar, Semicolon, Backslash, Ampersand, Star, Tilde, Equals}
use Rattle.sentence.specs.Trees.{name, Bracket, round, square, closure, Infix, bar, semicolon, backslash, ampersand, product, Tree, atom, inside, leaf_sort, open_sort, close_sort, post_sort, infix_sort, spell, level, Well, Word, labelled, flagged, Statement, checks, Sentence, heading, word_sort, spell_binding, spell_more, spell_statement, spell_statements, spell_text, AllWell, WellStatement, WellStatements}
use Rattle.sentence.specs.Texts.{Writes}
use Rattle.sentence.specs.Machine.{Start, leaf, opens, Go, closes, joins, ends, Speech, titles, lets, recs, ands, flags, labels, equals, words, Role, starts, goes, complements, speaks, role, suffix, fill, asked, Wait, nothing, behind, Frame, single, first, more, Owner, of_binding, of_check, State, begun, ready, let_seen, name_due, equals_due, flag_seen, tilde_seen, label_due, operand, after, starred, also, blank, onto, finish, grouped, marked, on_name, on_speech, on_equals, on_word, on_rec, from_ready, from_begun, from_let, from_flag, leaving, labelling, spoken, starting, shut, closing, joining, going, from_operand, whole, negating, from_after, from_starred, feed, runs, ending, accept, reads}
use Rattle.sentence.proofs.Inserts.{asked_most}
use Rattle.sentence.proofs.Said.{spell_wait, spell_fill, spell_suffix, well_fill, well_suffix, WellWait, WellOwner, spell_owner, spell_before, outside, said, Around, Sane, Stands}

-- the sort of a role
abbrev pub start_sort : Start → Sort
start_sort (leaf l) = leaf_sort l
start_sort (opens b) = open_sort b

abbrev pub go_sort : Go → Sort
go_sort (closes b) = close_sort b
go_sort (joins i) = infix_sort i
go_sort (ends s) = post_sort s

abbrev pub speech_sort : Speech → Sort
speech_sort titles = Title
speech_sort lets = Let
speech_sort recs = Rec
speech_sort ands = And
speech_sort flags = Flag
speech_sort labels = As
speech_sort equals = Equals
speech_sort (words w) = word_sort w

abbrev pub role_sort : Role → Sort
role_sort (starts s) = start_sort s
role_sort (goes g) = go_sort g
role_sort complements = Tilde
role_sort (speaks s) = speech_sort s

pub role_known : (s : Sort) → role_sort (role s) ≡ s
role_known Name = refl
role_known s = refl

-- one more statement is written behind the others
spell_last : (ss : List Statement) (s : Statement) → spell_statements (ss ++ (s ∷ [])) ≡ spell_statements ss ++ spell_statement s
spell_last [] s = append-nil (spell_statement s)
spell_last (a ∷ ss) s = ap (λ x. spell_statement a ++ x) (spell_last ss s) ∙ sym (append_assoc (spell_statement a) (spell_statements ss) (spell_statement s))

pub spell_also : (p : Sentence) (s : Statement) → spell_text (also p s) ≡ spell_text p ++ spell_statement s
spell_also p s = ap (λ x. heading p.titled ++ x) (spell_last p.statements s) ∙ sym (append_assoc (heading p.titled) (spell_statements p.statements) (spell_statement s))

pub well_also : (ss : List Statement) (s : Statement) → WellStatements ss → WellStatement s → WellStatements (ss ++ (s ∷ []))
well_also [] s h k = (k, tt)
well_also (a ∷ ss) s h k = (h.0, well_also ss s h.1 k)

-- one more binding too
spell_more_last : (ts : List Tree) (t : Tree) → spell_more (ts ++ (t ∷ [])) ≡ spell_more ts ++ (And ∷ spell_binding t)
spell_more_last [] t = ap (λ x. And ∷ (Name ∷ (Equals ∷ x))) (append-nil (spell t))
spell_more_last (u ∷ ts) t = ap (λ x. (And ∷ spell_binding u) ++ x) (spell_more_last ts t) ∙ sym (append_assoc (And ∷ spell_binding u) (spell_more ts) (And ∷ spell_binding t))

all_last : (ts : List Tree) (t : Tree) → AllWell ts → Well t → AllWell (ts ++ (t ∷ []))
all_last [] t h k = (k, tt)
all_last (u ∷ ts) t h k = (h.0, all_last ts t h.1 k)

-- a state stands for equal sorts as well
stands_as : (a b : List Sort) (c : Option State) → a ≡ b → Stands a c → Stands b c
stands_as a b c e h = subst (λ x. Stands x c) e h

-- an expression begins
start_owner : (p : Sentence) (o : Owner) (ts : List Sort) → WellStatements p.statements → WellOwner o → spell_text p ++ spell_owner o ≡ ts → Stands ts (Some (operand p o [] nothing))
start_owner p o ts past good e =
    ((record { past = past; owner = good; frames = tt }, tt, omega arith), simp append-nil e)

-- a statement begins
stands_ready : (p : Sentence) (r : Role) → WellStatements p.statements → Stands (spell_text p ++ (role_sort r ∷ [])) (from_ready p r)
stands_ready p complements h = (h, refl)
stands_ready p (speaks lets) h = (h, refl)
stands_ready p (speaks flags) h = (h, refl)
stands_ready p (speaks (words w)) h = start_owner p (of_check false false w) _ h tt refl
stands_ready p r h = tt

stands_begun : (r : Role) → Stands (role_sort r ∷ []) (from_begun r)
stands_begun complements = (tt, refl)
stands_begun (speaks titles) = (tt, refl)
stands_begun (speaks lets) = (tt, refl)
stands_begun (speaks flags) = (tt, refl)
stands_begun (speaks (words w)) = start_owner (blank false) (of_check false false w) _ tt tt refl
stands_begun r = tt

-- a name comes
stands_name : (ts : List Sort) (r : Role) (c : State) → Stands (ts ++ (Name ∷ [])) (Some c) → Stands (ts ++ (role_sort r ∷ [])) (on_name r c)
stands_name ts (starts (leaf name)) c h = h
stands_name ts r c h = tt

-- a word of statements comes
stands_speech : (ts : List Sort) (r : Role) (f : Speech → Option State) → ((s : Speech) → Stands (ts ++ (speech_sort s ∷ [])) (f s)) → Stands (ts ++ (role_sort r ∷ [])) (on_speech r f)
stands_speech ts (speaks s) f h = h s
stands_speech ts r f h = tt

stands_equals : (ts : List Sort) (c : State) → Stands (ts ++ (Equals ∷ [])) (Some c) → (s : Speech) → Stands (ts ++ (speech_sort s ∷ [])) (on_equals c s)
stands_equals ts c h equals = h
stands_equals ts c h r = tt

stands_word : (p : Sentence) (f n : Bool) (ts : List Sort) → WellStatements p.statements → ((w : Word) → spell_text p ++ spell_owner (of_check f n w) ≡ ts ++ (word_sort w ∷ [])) →
    (s : Speech) → Stands (ts ++ (speech_sort s ∷ [])) (on_word p f n s)
stands_word p f n ts h e (words w) = start_owner p (of_check f n w) _ h tt (e w)
stands_word p f n ts h e r = tt

stands_rec : (p : Sentence) → WellStatements p.statements → (s : Speech) → Stands ((spell_text p ++ (Let ∷ [])) ++ (speech_sort s ∷ [])) (on_rec p s)
stands_rec p h recs = (record { past = h; owner = tt; frames = tt }, sym (append_assoc (spell_text p) (Let ∷ []) (Rec ∷ [])))
stands_rec p h r = tt

stands_let : (p : Sentence) (r : Role) → WellStatements p.statements → Stands ((spell_text p ++ (Let ∷ [])) ++ (role_sort r ∷ [])) (from_let p r)
stands_let p (starts s) h = stands_name (spell_text p ++ (Let ∷ [])) (starts s) (equals_due p single) (record { past = h; owner = tt; frames = tt }, sym (append_assoc (spell_text p) (Let ∷ []) (Name ∷ [])))
stands_let p (goes g) h = tt
stands_let p complements h = tt
stands_let p (speaks s) h = stands_rec p h s

stands_flag : (p : Sentence) (r : Role) → WellStatements p.statements → Stands ((spell_text p ++ (Flag ∷ [])) ++ (role_sort r ∷ [])) (from_flag p r)
stands_flag p (starts s) h = tt
stands_flag p (goes g) h = tt
stands_flag p complements h = (h, sym (append_assoc (spell_text p) (Flag ∷ []) (Tilde ∷ [])))
stands_flag p (speaks s) h = stands_word p true false (spell_text p ++ (Flag ∷ [])) h (λ w. sym (append_assoc (spell_text p) (Flag ∷ []) (word_sort w ∷ []))) s

-- a statement ends with its expression
abbrev Finished : List Sort → Option Statement → Type 0
Finished ts None = Unit {0}
Finished ts (Some s) = WellStatement s × (spell_statement s ≡ ts)

finished : (o : Owner) (t : Tree) → WellOwner o → Well t → Finished (spell_owner o ++ spell t) (finish o t)
finished (of_binding single) t g h = (h, refl)
finished (of_binding first) t g h = ((h, tt), simp append-nil)
finished (of_binding (more u us)) t g h = ((g.0, all_last us t g.1 h), simp (spell_more_last, append_assoc))
finished (of_check true n w) t g h = tt
finished (of_check false n w) t g h = (h, simp (append-nil, append_assoc))

-- the sentence is then written as the state
finished_text : (p : Sentence) (o : Owner) (t : Tree) (s : Statement) → spell_statement s ≡ spell_owner o ++ spell t → spell_text (also p s) ≡ outside p o [] ++ spell t
finished_text p o t s e =
    spell_also p s
    ∙ ap (λ x. spell_text p ++ x) (e ∙ ap (λ x. x ++ spell t) (sym (append-nil (spell_owner o))))
    ∙ sym (append_assoc (spell_text p) (spell_owner o ++ []) (spell t))

stands_leaving : (p : Sentence) (o : Owner) (t : Tree) (r : Role) → Around p o [] → Well t → Stands ((outside p o [] ++ spell t) ++ (role_sort r ∷ [])) (leaving p o t r)
stands_leaving p o t r around h = go (finish o t) (finished o t around.owner h)
  where
    go : (f : Option Statement) → Finished (spell_owner o ++ spell t) f → Stands ((outside p o [] ++ spell t) ++ (role_sort r ∷ [])) (onto f (λ s. from_ready (also p s) r))
    go None e = tt
    go (Some s) e =
        stands_as (spell_text (also p s) ++ (role_sort r ∷ [])) ((outside p o [] ++ spell t) ++ (role_sort r ∷ [])) (from_ready (also p s) r)
        (ap (λ x. x ++ (role_sort r ∷ [])) (finished_text p o t s e.1))
        (stands_ready (also p s) r (well_also p.statements s around.past e.0))

stands_grouped : (p : Sentence) (o : Owner) (t : Tree) → Around p o [] → Well t → Stands ((outside p o [] ++ spell t) ++ (And ∷ [])) (onto (grouped o t) (λ b. Some (name_due p b)))
stands_grouped p (of_binding single) t around h = tt
stands_grouped p (of_binding first) t around h = (record { past = around.past; owner = (h, tt); frames = tt }, simp (append-nil, append_assoc))
stands_grouped p (of_binding (more u us)) t around h =
    (record { past = around.past; owner = (around.owner.0, all_last us t around.owner.1 h); frames = tt }, simp (spell_more_last, append-nil, append_assoc))
stands_grouped p (of_check f n w) t around h = tt

stands_labelling : (p : Sentence) (o : Owner) (t : Tree) → Around p o [] → Well t → Stands ((outside p o [] ++ spell t) ++ (As ∷ [])) (labelling p o t)
stands_labelling p (of_binding b) t around h = tt
stands_labelling p (of_check f n w) t around h = ((around.past, h), sym (append_assoc (outside p (of_check f n w) []) (spell t) (As ∷ [])))

stands_spoken : (p : Sentence) (o : Owner) (t : Tree) (s : Speech) → Around p o [] → Well t → Stands ((outside p o [] ++ spell t) ++ (speech_sort s ∷ [])) (spoken p o t s)
stands_spoken p o t lets around h = stands_leaving p o t (speaks lets) around h
stands_spoken p o t ands around h = stands_grouped p o t around h
stands_spoken p o t flags around h = stands_leaving p o t (speaks flags) around h
stands_spoken p o t labels around h = stands_labelling p o t around h
stands_spoken p o t (words w) around h = stands_leaving p o t (speaks (words w)) around h
stands_spoken p o t s around h = tt

-- an expression in its place, written whole
filled : (p : Sentence) (o : Owner) (fs : List Frame) (w : Wait) (t : Tree) (ts : List Sort) → Around p o fs → WellWait w → Well t → 7 ≤ level t → ts ≡ (outside p o fs ++ spell_wait w) ++ spell t →
    Stands ts (Some (after p o fs (fill w t)))
filled p o fs w t ts around g h k e =
    ((around, well_fill w t g h (omega (arith, asked_most w))), ap (λ x. outside p o fs ++ x) (spell_fill w t) ∙ sym (append_assoc (outside p o fs) (spell_wait w) (spell t)) ∙ sym e)

stands_starting : (p : Sentence) (o : Owner) (fs : List Frame) (w : Wait) (s : Start) → Around p o fs → WellWait w → Stands ((outside p o fs ++ spell_wait w) ++ (start_sort s ∷ [])) (starting p o fs w s)
stands_starting p o fs w (leaf l) around g = filled p o fs w (atom l) ((outside p o fs ++ spell_wait w) ++ (leaf_sort l ∷ [])) around g tt (omega arith) refl
stands_starting p o fs w (opens b) around g =
    ((record { past = around.past; owner = around.owner; frames = (g, around.frames) }, tt, omega arith), simp (append-nil, append_assoc))

stands_operand : (p : Sentence) (o : Owner) (fs : List Frame) (w : Wait) (r : Role) → Around p o fs → WellWait w → asked w ≤ 6 → Stands ((outside p o fs ++ spell_wait w) ++ (role_sort r ∷ [])) (from_operand p o fs w r)
stands_operand p o fs w (starts s) around g h = stands_starting p o fs w s around g
stands_operand p o fs w (goes a) around g h = tt
stands_operand p o fs w complements around g h = ((around, (g, h), omega arith), sym (append_assoc (outside p o fs) (spell_wait w) (Tilde ∷ [])))
stands_operand p o fs w (speaks s) around g h = tt

-- a bracket closes
shut_same : (p : Sentence) (o : Owner) (fs : List Frame) (w : Wait) (b : Bracket) (t : Tree) → Around p o (record { bracket = b; waits = w } ∷ fs) → Well t →
    Stands ((outside p o (record { bracket = b; waits = w } ∷ fs) ++ spell t) ++ (close_sort b ∷ [])) (Some (after p o fs (fill w (inside b t))))
shut_same p o fs w b t around h =
    filled p o fs w (inside b t) ((outside p o (record { bracket = b; waits = w } ∷ fs) ++ spell t) ++ (close_sort b ∷ []))
    (record { past = around.past; owner = around.owner; frames = around.frames.1 }) around.frames.0 h (omega arith) (simp append_assoc)

stands_shut : (p : Sentence) (o : Owner) (fs : List Frame) (t : Tree) (w : Wait) (a b : Bracket) → Around p o (record { bracket = a; waits = w } ∷ fs) → Well t →
    Stands ((outside p o (record { bracket = a; waits = w } ∷ fs) ++ spell t) ++ (close_sort b ∷ [])) (shut p o fs t w a b)
stands_shut p o fs t w round round around h = shut_same p o fs w round t around h
stands_shut p o fs t w round square around h = tt
stands_shut p o fs t w square round around h = tt
stands_shut p o fs t w square square around h = shut_same p o fs w square t around h

stands_closing : (p : Sentence) (o : Owner) (fs : List Frame) (t : Tree) (b : Bracket) → Around p o fs → Well t → Stands ((outside p o fs ++ spell t) ++ (close_sort b ∷ [])) (closing p o fs t b)
stands_closing p o [] t b around h = tt
stands_closing p o (f ∷ fs) t b around h = stands_shut p o fs t f.waits f.bracket b around h

stands_joining : (p : Sentence) (o : Owner) (fs : List Frame) (t : Tree) (i : Infix) → Around p o fs → Well t → Stands ((outside p o fs ++ spell t) ++ (infix_sort i ∷ [])) (joining p o fs t i)
stands_joining p o fs t bar around h = ((around, h, omega arith), sym (append_assoc (outside p o fs) (spell t) (Bar ∷ [])))
stands_joining p o fs t semicolon around h = ((around, h, omega arith), sym (append_assoc (outside p o fs) (spell t) (Semicolon ∷ [])))
stands_joining p o fs t backslash around h = ((around, h, omega arith), sym (append_assoc (outside p o fs) (spell t) (Backslash ∷ [])))
stands_joining p o fs t ampersand around h = ((around, h, omega arith), sym (append_assoc (outside p o fs) (spell t) (Ampersand ∷ [])))
stands_joining p o fs t product around h = ((around, h), sym (append_assoc (outside p o fs) (spell t) (Star ∷ [])))

stands_going : (p : Sentence) (o : Owner) (fs : List Frame) (t : Tree) (g : Go) → Around p o fs → Well t → Stands ((outside p o fs ++ spell t) ++ (go_sort g ∷ [])) (going p o fs t g)
stands_going p o fs t (closes b) around h = stands_closing p o fs t b around h
stands_going p o fs t (joins i) around h = stands_joining p o fs t i around h
stands_going p o fs t (ends s) around h =
    ((around, well_suffix t s h), ap (λ x. outside p o fs ++ x) (spell_suffix t s) ∙ sym (append_assoc (outside p o fs) (spell t) (post_sort s ∷ [])))

stands_whole : (p : Sentence) (o : Owner) (fs : List Frame) (t : Tree) (s : Speech) → Around p o fs → Well t → Stands ((outside p o fs ++ spell t) ++ (speech_sort s ∷ [])) (whole p o fs t s)
stands_whole p o [] t s around h = stands_spoken p o t s around h
stands_whole p o (f ∷ fs) t s around h = tt

stands_negating : (p : Sentence) (o : Owner) (fs : List Frame) (t : Tree) → Around p o fs → Well t → Stands ((outside p o fs ++ spell t) ++ (Tilde ∷ [])) (negating p o fs t)
stands_negating p o [] t around h = stands_leaving p o t complements around h
stands_negating p o (f ∷ fs) t around h = tt

stands_after : (p : Sentence) (o : Owner) (fs : List Frame) (t : Tree) (r : Role) → Around p o fs → Well t → Stands ((outside p o fs ++ spell t) ++ (role_sort r ∷ [])) (from_after p o fs t r)
stands_after p o fs t (starts s) around h = tt
stands_after p o fs t (goes g) around h = stands_going p o fs t g around h
stands_after p o fs t complements around h = stands_negating p o fs t around h
stands_after p o fs t (speaks s) around h = stands_whole p o fs t s around h

-- a star is written alike, be it the closure or the product
stands_starred : (p : Sentence) (o : Owner) (fs : List Frame) (t : Tree) (r : Role) → Around p o fs → Well t → Stands ((outside p o fs ++ (spell t ++ (Star ∷ []))) ++ (role_sort r ∷ [])) (from_starred p o fs t r)
stands_starred p o fs t (starts s) around h = stands_starting p o fs (behind t product) s around h
stands_starred p o fs t (goes g) around h = rw (← spell_suffix t closure) (stands_going p o fs (suffix t closure) g around (well_suffix t closure h))
stands_starred p o fs t complements around h = rw (← spell_suffix t closure) (stands_negating p o fs (suffix t closure) around (well_suffix t closure h))
stands_starred p o fs t (speaks s) around h = rw (← spell_suffix t closure) (stands_whole p o fs (suffix t closure) s around (well_suffix t closure h))

-- a label ends its check
stands_label : (p : Sentence) (f n : Bool) (w : Word) (t : Tree) → WellStatements p.statements → Well t → Stands (said (label_due p f n w t) ++ (Name ∷ [])) (Some (ready (also p (checks (marked f) n w t))))
stands_label p true n w t g h = (well_also p.statements (checks flagged n w t) g h, spell_also p (checks flagged n w t) ∙ simp (append-nil, append_assoc))
stands_label p false n w t g h = (well_also p.statements (checks labelled n w t) g h, spell_also p (checks labelled n w t) ∙ simp (append-nil, append_assoc))

-- one sort more
pub stands_feed : (c : State) (r : Role) → Sane c → Stands (said c ++ (role_sort r ∷ [])) (feed c r)
unfolding feed
stands_feed begun r h = stands_begun r
stands_feed (ready p) r h = stands_ready p r h
stands_feed (let_seen p) r h = stands_let p r h
stands_feed (name_due p b) r h = stands_name (said (name_due p b)) r (equals_due p b) (h, sym (append_assoc (spell_text p) (spell_before b) (Name ∷ [])))
stands_feed (equals_due p b) r h =
    stands_speech (said (equals_due p b)) r (on_equals (operand p (of_binding b) [] nothing))
    (stands_equals (said (equals_due p b)) (operand p (of_binding b) [] nothing) (start_owner p (of_binding b) _ h.past h.owner (simp append_assoc)))
stands_feed (flag_seen p) r h = stands_flag p r h
stands_feed (tilde_seen p f) r h = stands_speech (said (tilde_seen p f)) r (on_word p f true) (stands_word p f true (said (tilde_seen p f)) h (λ w. simp append_assoc))
stands_feed (label_due p f n w t) r h = stands_name (said (label_due p f n w t)) r (ready (also p (checks (marked f) n w t))) (stands_label p f n w t h.0 h.1)
stands_feed (operand p o fs w) r h = stands_operand p o fs w r h.0 h.1 h.2
stands_feed (after p o fs t) r h = stands_after p o fs t r h.0 h.1
stands_feed (starred p o fs t) r h = stands_starred p o fs t r h.0 h.1

-- all sorts
pub stands_runs : (ts : List Sort) (c : State) → Sane c → Stands (said c ++ ts) (runs c ts)
unfolding runs
stands_runs [] c h = (h, sym (append-nil (said c)))
stands_runs (s ∷ ts) c h = go (λ d. stands_runs ts d) (feed c (role s)) (stands_feed c (role s) h)
  where
    go : ((d : State) → Sane d → Stands (said d ++ ts) (runs d ts)) → (f : Option State) → Stands (said c ++ (role_sort (role s) ∷ [])) f → Stands (said c ++ (s ∷ ts)) (onto f (λ d. runs d ts))
    go ih None e = tt
    go ih (Some d) e =
        stands_as (said d ++ ts) (said c ++ (s ∷ ts)) (runs d ts)
        (ap (λ x. x ++ ts) (e.1 ∙ ap (λ x. said c ++ (x ∷ [])) (role_known s)) ∙ append_assoc (said c) (s ∷ []) ts)
        (ih d e.0)

-- a sentence, if there is one, is written so
abbrev Written : List Sort → Option Sentence → Type 0
Written ts None = Unit {0}
Written ts (Some x) = Writes ts x

written_ending : (p : Sentence) (o : Owner) (fs : List Frame) (t : Tree) → Around p o fs → Well t → Written (outside p o fs ++ spell t) (ending p o fs t)
written_ending p o [] t around h = go (finish o t) (finished o t around.owner h)
  where
    go : (f : Option Statement) → Finished (spell_owner o ++ spell t) f → Written (outside p o [] ++ spell t) (onto f (λ s. Some (also p s)))
    go None e = tt
    go (Some s) e = record { well = well_also p.statements s around.past e.0; spells = finished_text p o t s e.1 }
written_ending p o (f ∷ fs) t around h = tt

written_accept : (c : State) → Sane c → Written (said c) (accept c)
unfolding accept
written_accept begun h = record { well = tt; spells = refl }
written_accept (ready p) h = record { well = h; spells = refl }
written_accept (after p o fs t) h = written_ending p o fs t h.0 h.1
written_accept (starred p o fs t) h = rw (← spell_suffix t closure) (written_ending p o fs (suffix t closure) h.0 (well_suffix t closure h.1))
written_accept c h = tt

-- to read is to run and to accept; to read two parts is to run the first and to read the second
pub reads_append : (a b : List Sort) (c : State) → reads c (a ++ b) ≡ onto (runs c a) (λ d. reads d b)
unfolding reads runs
reads_append [] b c = refl
reads_append (s ∷ a) b c = go (λ d. reads_append a b d) (feed c (role s))
  where
    go : ((d : State) → reads d (a ++ b) ≡ onto (runs d a) (λ d. reads d b)) → (f : Option State) → onto f (λ d. reads d (a ++ b)) ≡ onto (onto f (λ d. runs d a)) (λ d. reads d b)
    go ih None = refl
    go ih (Some d) = ih d

pub reads_runs : (ts : List Sort) (c : State) → reads c ts ≡ onto (runs c ts) accept
unfolding reads runs
reads_runs [] c = refl
reads_runs (s ∷ ts) c = go (λ d. reads_runs ts d) (feed c (role s))
  where
    go : ((d : State) → reads d ts ≡ onto (runs d ts) accept) → (f : Option State) → onto f (λ d. reads d ts) ≡ onto (onto f (λ d. runs d ts)) accept
    go ih None = refl
    go ih (Some d) = ih d

-- what is read off sorts from the beginning is a sentence written so
pub reads_written : (ts : List Sort) (x : Sentence) → reads begun ts ≡ Some x → Writes ts x
reads_written ts x e = go (runs begun ts) (stands_runs ts begun tt) (sym (reads_runs ts begun) ∙ e)
  where
    accepted : (f : Option Sentence) → Written ts f → f ≡ Some x → Writes ts x
    accepted None w e = let no : ⊥ = cc in absurd no
    accepted (Some y) w e = let same : y ≡ x = cc in subst (λ v. Writes ts v) same w

    go : (f : Option State) → Stands ts f → onto f accept ≡ Some x → Writes ts x
    go None h e = let no : ⊥ = cc in absurd no
    go (Some c) h e = accepted (accept c) (subst (λ v. Written v (accept c)) h.1 (written_accept c h.0)) e
