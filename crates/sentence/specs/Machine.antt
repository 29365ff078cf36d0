-- A machine that takes the sorts of a text one by one and carries the trees read so far; inner, proofs/ ties it to the grammar. Assumes nothing.
use Rattle.std.specs.Prelude.{ℕ, suc, Bool, true, false, cond, List, [], ◌∷◌, ◌++◌, Some, None, Ok, Err, Option, Result, nat_le}
use Rattle.sentence.specs.declared.sort.Sort.{Sort}
pub use Rattle.sentence.specs.Roles.{Start, leaf, opens, Go, closes, joins, ends, Speech, titles, lets, recs, ands, flags, labels, equals, words, Role, starts, goes, complements, speaks, role}
use Rattle.sentence.specs.Trees.{name, Bracket, round, square, Post, closure, Infix, bar, semicolon, backslash, ampersand, product, Tree, atom, inside, tilde, ended, joined, rank, bound, Word, Mark, plain, labelled, flagged, Statement, binds, groups, checks, Sentence}

-- the tree for an expression, an infix sign, and a tighter operand
unfoldable pub insert : Tree → Infix → Tree → Tree
insert (atom l) i v = joined i (atom l) v
insert (inside b t) i v = joined i (inside b t) v
insert (tilde t) i v = joined i (tilde t) v
insert (ended t p) i v = joined i (ended t p) v
insert (joined j a b) i v = cond (nat_le (rank i) (rank j)) (joined i (joined j a b) v) (joined j a (insert b i v))

-- the tree for an expression and a sign behind it
unfoldable pub suffix : Tree → Post → Tree
suffix (atom l) p = ended (atom l) p
suffix (inside b t) p = ended (inside b t) p
suffix (tilde t) p = tilde (suffix t p)
suffix (ended t q) p = ended (ended t q) p
suffix (joined j a b) p = joined j a (suffix b p)

-- what waits for an operand: nothing, an expression and an infix sign, or a prefix before that
pub data Wait : Type 0 where
  nothing : Wait
  behind : Tree → Infix → Wait
  tilded : Wait → Wait

-- the expression once the operand has come
unfoldable pub fill : Wait → Tree → Tree
fill nothing t = t
fill (behind l i) t = insert l i t
fill (tilded w) t = fill w (tilde t)

-- how tightly an operand has to hold together
abbrev pub asked : Wait → ℕ
asked nothing = 0
asked (behind l i) = bound i
asked (tilded w) = 6

-- an open bracket, and what waits for it
pub record Frame : Type 0 where
  pub bracket : Bracket
  pub waits : Wait

-- whose expression is read: a let's, a group's first or a later one; a check's, flagged or not, negated or not
pub data Binding : Type 0 where
  single first : Binding
  more : Tree → List Tree → Binding

pub data Owner : Type 0 where
  of_binding : Binding → Owner
  of_check : Bool → Bool → Word → Owner

-- where the machine stands, with the sentence so far
pub data State : Type 0 where
  begun : State
  ready : Sentence → State
  let_seen : Sentence → State
  name_due : Sentence → Binding → State
  equals_due : Sentence → Binding → State
  flag_seen : Sentence → State
  tilde_seen : Sentence → Bool → State
  label_due : Sentence → Bool → Bool → Word → Tree → State
  operand : Sentence → Owner → List Frame → Wait → State
  after : Sentence → Owner → List Frame → Tree → State
  -- behind a star of which it is not yet known what it is
  starred : Sentence → Owner → List Frame → Tree → State

-- goes on with what is there
abbrev pub onto : {A B : Type 0} → Option A → (A → Option B) → Option B
onto None f = None
onto (Some a) f = f a

-- the sentence of an empty text, and a sentence with one more statement
abbrev pub blank : Bool → Sentence
blank b = record { titled = b; statements = [] }

abbrev pub also : Sentence → Statement → Sentence
also p s = record { titled = p.titled; statements = p.statements ++ (s ∷ []) }

-- the statement that ends with this expression, where it can end there
abbrev pub finish : Owner → Tree → Option Statement
finish (of_binding single) t = Some (binds t)
finish (of_binding first) t = Some (groups t [])
finish (of_binding (more u us)) t = Some (groups u (us ++ (t ∷ [])))
finish (of_check true n w) t = None
finish (of_check false n w) t = Some (checks plain n w t)

-- the group that goes on behind this expression
abbrev pub grouped : Owner → Tree → Option Binding
grouped (of_binding single) t = None
grouped (of_binding first) t = Some (more t [])
grouped (of_binding (more u us)) t = Some (more u (us ++ (t ∷ [])))
grouped (of_check f n w) t = None

-- a name, and nothing else
abbrev pub on_name : Role → State → Option State
on_name (starts (leaf name)) c = Some c
on_name r c = None

-- a word of statements, and nothing else
abbrev pub on_speech : Role → (Speech → Option State) → Option State
on_speech (speaks s) f = f s
on_speech r f = None

-- the sign `=`
abbrev pub on_equals : State → Speech → Option State
on_equals c equals = Some c
on_equals c r = None

-- the word of a check
abbrev pub on_word : Sentence → Bool → Bool → Speech → Option State
on_word p f n (words w) = Some (operand p (of_check f n w) [] nothing)
on_word p f n r = None

-- the word `rec`
abbrev pub on_rec : Sentence → Speech → Option State
on_rec p recs = Some (name_due p first)
on_rec p r = None

-- the beginning of a statement
abbrev pub opening : Sentence → Speech → Option State
opening p lets = Some (let_seen p)
opening p flags = Some (flag_seen p)
opening p (words w) = Some (operand p (of_check false false w) [] nothing)
opening p r = None

abbrev pub from_ready : Sentence → Role → Option State
from_ready p (starts s) = None
from_ready p (goes g) = None
from_ready p complements = Some (tilde_seen p false)
from_ready p (speaks s) = opening p s

-- the beginning of a text
abbrev pub from_begun : Role → Option State
from_begun complements = Some (tilde_seen (blank false) false)
from_begun (speaks titles) = Some (ready (blank true))
from_begun (speaks lets) = opening (blank false) lets
from_begun (speaks flags) = opening (blank false) flags
from_begun (speaks (words w)) = opening (blank false) (words w)
from_begun r = None

-- behind `let`
abbrev pub from_let : Sentence → Role → Option State
from_let p (starts s) = on_name (starts s) (equals_due p single)
from_let p (goes g) = None
from_let p complements = None
from_let p (speaks s) = on_rec p s

-- behind `flag`
abbrev pub from_flag : Sentence → Role → Option State
from_flag p (starts s) = None
from_flag p (goes g) = None
from_flag p complements = Some (tilde_seen p true)
from_flag p (speaks s) = on_word p true false s

-- the next statement begins behind an expression
abbrev pub leaving : Sentence → Owner → Tree → Role → Option State
leaving p o t r = onto (finish o t) (λ s. from_ready (also p s) r)

-- a label comes
abbrev pub labelling : Sentence → Owner → Tree → Option State
labelling p (of_binding b) t = None
labelling p (of_check f n w) t = Some (label_due p f n w t)

-- a check's mark once it has its label
abbrev pub marked : Bool → Mark
marked true = flagged
marked false = labelled

-- a word of statements behind a whole expression
abbrev pub spoken : Sentence → Owner → Tree → Speech → Option State
spoken p o t lets = leaving p o t (speaks lets)
spoken p o t ands = onto (grouped o t) (λ b. Some (name_due p b))
spoken p o t flags = leaving p o t (speaks flags)
spoken p o t labels = labelling p o t
spoken p o t (words w) = leaving p o t (speaks (words w))
spoken p o t r = None

-- the sort begins an atom
abbrev pub starting : Sentence → Owner → List Frame → Wait → Start → Option State
starting p o fs w (leaf l) = Some (after p o fs (fill w (atom l)))
starting p o fs w (opens b) = Some (operand p o (record { bracket = b; waits = w } ∷ fs) nothing)

-- the innermost bracket closes
abbrev pub shut : Sentence → Owner → List Frame → Tree → Wait → Bracket → Bracket → Option State
shut p o fs t w round round = Some (after p o fs (fill w (inside round t)))
shut p o fs t w round square = None
shut p o fs t w square round = None
shut p o fs t w square square = Some (after p o fs (fill w (inside square t)))

abbrev pub closing : Sentence → Owner → List Frame → Tree → Bracket → Option State
closing p o [] t b = None
closing p o (f ∷ fs) t b = shut p o fs t f.waits f.bracket b

abbrev pub joining : Sentence → Owner → List Frame → Tree → Infix → Option State
joining p o fs t bar = Some (operand p o fs (behind t bar))
joining p o fs t semicolon = Some (operand p o fs (behind t semicolon))
joining p o fs t backslash = Some (operand p o fs (behind t backslash))
joining p o fs t ampersand = Some (operand p o fs (behind t ampersand))
joining p o fs t product = Some (starred p o fs t)

abbrev pub going : Sentence → Owner → List Frame → Tree → Go → Option State
going p o fs t (closes b) = closing p o fs t b
going p o fs t (joins i) = joining p o fs t i
going p o fs t (ends q) = Some (after p o fs (suffix t q))

abbrev pub from_operand : Sentence → Owner → List Frame → Wait → Role → Option State
from_operand p o fs w (starts s) = starting p o fs w s
from_operand p o fs w (goes g) = None
from_operand p o fs w complements = Some (operand p o fs (tilded w))
from_operand p o fs w (speaks s) = None

-- a whole expression ends only where no bracket is open
abbrev pub whole : Sentence → Owner → List Frame → Tree → Speech → Option State
whole p o [] t s = spoken p o t s
whole p o (f ∷ fs) t s = None

abbrev pub negating : Sentence → Owner → List Frame → Tree → Option State
negating p o [] t = leaving p o t complements
negating p o (f ∷ fs) t = None

abbrev pub from_after : Sentence → Owner → List Frame → Tree → Role → Option State
from_after p o fs t (starts s) = None
from_after p o fs t (goes g) = going p o fs t g
from_after p o fs t complements = negating p o fs t
from_after p o fs t (speaks s) = whole p o fs t s

-- behind a star: what begins an atom makes it the product, all else the closure
abbrev pub from_starred : Sentence → Owner → List Frame → Tree → Role → Option State
from_starred p o fs t (starts s) = starting p o fs (behind t product) s
from_starred p o fs t (goes g) = going p o fs (suffix t closure) g
from_starred p o fs t complements = negating p o fs (suffix t closure)
from_starred p o fs t (speaks s) = whole p o fs (suffix t closure) s

-- one sort is taken
unfoldable pub feed : State → Role → Option State
feed begun r = from_begun r
feed (ready p) r = from_ready p r
feed (let_seen p) r = from_let p r
feed (name_due p b) r = on_name r (equals_due p b)
feed (equals_due p b) r = on_speech r (on_equals (operand p (of_binding b) [] nothing))
feed (flag_seen p) r = from_flag p r
feed (tilde_seen p f) r = on_speech r (on_word p f true)
feed (label_due p f n w t) r = on_name r (ready (also p (checks (marked f) n w t)))
feed (operand p o fs w) r = from_operand p o fs w r
feed (after p o fs t) r = from_after p o fs t r
feed (starred p o fs t) r = from_starred p o fs t r

-- all sorts are taken, as long as they can be
unfoldable pub runs : State → List Sort → Option State
runs c [] = Some c
runs c (s ∷ ts) = onto (feed c (role s)) (λ d. runs d ts)

-- the sentence, where the text may end
abbrev pub ending : Sentence → Owner → List Frame → Tree → Option Sentence
ending p o [] t = onto (finish o t) (λ s. Some (also p s))
ending p o (f ∷ fs) t = None

unfoldable pub accept : State → Option Sentence
accept begun = Some (blank false)
accept (ready p) = Some p
accept (after p o fs t) = ending p o fs t
accept (starred p o fs t) = ending p o fs (suffix t closure)
accept r = None

-- the sentence of these sorts, from a state on
unfoldable pub reads : State → List Sort → Option Sentence
reads c [] = accept c
reads c (s ∷ ts) = onto (feed c (role s)) (λ d. reads d ts)

-- the sentence, or the place of the first sort that cannot be taken, or the end's; the sorts begin at a place
abbrev pub told_end : Option Sentence → ℕ → Result Sentence ℕ
told_end None i = Err i
told_end (Some x) i = Ok x

abbrev pub told_on : Option State → ℕ → (State → Result Sentence ℕ) → Result Sentence ℕ
told_on None i f = Err i
told_on (Some d) i f = f d

unfoldable pub outcome : State → ℕ → List Sort → Result Sentence ℕ
outcome c i [] = told_end (accept c) i
outcome c i (s ∷ ts) = told_on (feed c (role s)) i (λ d. outcome d (suc i) ts)
