-- Trees and sentences: how they are grouped and how they are written. Assumes nothing.
use Rattle.std.specs.Prelude.{ℕ, ◌≤◌, Bool, true, false, List, [], ◌∷◌, ◌++◌}
use Rattle.sentence.specs.declared.sort.Sort.{Sort}
pub use Rattle.sentence.specs.declared.sign.Leaf.{Leaf}
pub use Rattle.sentence.specs.declared.sign.Leaf.TheVariants.{Name as name, Universe as universe, NoPairs as no_pairs, NoEvents as no_events}
pub use Rattle.sentence.specs.declared.sign.Bracket.{Bracket}
pub use Rattle.sentence.specs.declared.sign.Bracket.TheVariants.{Round as round, Square as square}
pub use Rattle.sentence.specs.declared.sign.Post.{Post}
pub use Rattle.sentence.specs.declared.sign.Post.TheVariants.{Plus as plus, Closure as closure, Question as question, Inverse as inverse}
pub use Rattle.sentence.specs.declared.sign.Infix.{Infix}
pub use Rattle.sentence.specs.declared.sign.Infix.TheVariants.{Bar as bar, Semicolon as semicolon, Backslash as backslash, Ampersand as ampersand, Product as product}
pub use Rattle.sentence.specs.declared.sign.Word.{Word}
pub use Rattle.sentence.specs.declared.sign.Word.TheVariants.{Acyclic as acyclic, Irreflexive as irreflexive, Empty as empty}
use Rattle.sentence.specs.declared.sort.Sort.TheVariants.{Name, Title, Let, Rec, And, Acyclic, Irreflexive, Empty, Flag, As, Universe, NoPairs, NoEvents, Inverse, Open, Close, OpenSquare, CloseSquare, Bar, Semicolon, Backslash, Ampersand, Star, Tilde, Plus, Question, Equals}

-- an expression, grouped
pub data Tree : Type 0 where
  atom : Leaf → Tree
  inside : Bracket → Tree → Tree
  tilde : Tree → Tree
  ended : Tree → Post → Tree
  joined : Infix → Tree → Tree → Tree

-- the sorts that the signs are written with; the product and the closure share theirs
abbrev pub leaf_sort : Leaf → Sort
leaf_sort name = Name
leaf_sort universe = Universe
leaf_sort no_pairs = NoPairs
leaf_sort no_events = NoEvents

abbrev pub open_sort : Bracket → Sort
open_sort round = Open
open_sort square = OpenSquare

abbrev pub close_sort : Bracket → Sort
close_sort round = Close
close_sort square = CloseSquare

abbrev pub post_sort : Post → Sort
post_sort plus = Plus
post_sort closure = Star
post_sort question = Question
post_sort inverse = Inverse

abbrev pub infix_sort : Infix → Sort
infix_sort bar = Bar
infix_sort semicolon = Semicolon
infix_sort backslash = Backslash
infix_sort ampersand = Ampersand
infix_sort product = Star

-- the sorts that a tree is written with
abbrev pub spell : Tree → List Sort
spell (atom l) = leaf_sort l ∷ []
spell (inside b t) = open_sort b ∷ (spell t ++ (close_sort b ∷ []))
spell (tilde t) = Tilde ∷ spell t
spell (ended t p) = spell t ++ (post_sort p ∷ [])
spell (joined i l r) = spell l ++ (infix_sort i ∷ spell r)

-- how tightly an infix sign binds
abbrev pub rank : Infix → ℕ
rank bar = 1
rank semicolon = 2
rank backslash = 3
rank ampersand = 4
rank product = 5

-- how tightly a tree holds together: by its outermost infix sign; then the prefix; then all else
abbrev pub level : Tree → ℕ
level (atom l) = 7
level (inside b t) = 7
level (tilde t) = 6
level (ended t p) = 7
level (joined i l r) = rank i

-- how tightly the right operand has to hold together: tighter than the sign, so that equal signs group to the left; that of a product does not begin with the prefix
abbrev pub bound : Infix → ℕ
bound bar = 2
bound semicolon = 3
bound backslash = 4
bound ampersand = 5
bound product = 7

-- each operand holds together tightly enough
abbrev pub Well : Tree → Type 0
Well (atom l) = Unit {0}
Well (inside b t) = Well t
Well (tilde t) = Well t × (6 ≤ level t)
Well (ended t p) = Well t × (7 ≤ level t)
Well (joined i l r) = Well l × Well r × (rank i ≤ level l) × (bound i ≤ level r)

-- a check has neither flag nor label, a label only, or a flag and its label
pub data Mark : Type 0 where
  plain labelled flagged : Mark

-- a let; a let rec with its first expression and those that follow; a check, with its mark, negated or not
pub data Statement : Type 0 where
  binds : Tree → Statement
  groups : Tree → List Tree → Statement
  checks : Mark → Bool → Word → Tree → Statement

-- a text's tree: whether it has a title, and its statements
pub record Sentence : Type 0 where
  pub titled : Bool
  pub statements : List Statement

abbrev pub word_sort : Word → Sort
word_sort acyclic = Acyclic
word_sort irreflexive = Irreflexive
word_sort empty = Empty

-- what a check's mark puts in front of it and behind it
abbrev pub mark_front : Mark → List Sort
mark_front plain = []
mark_front labelled = []
mark_front flagged = Flag ∷ []

abbrev pub mark_back : Mark → List Sort
mark_back plain = []
mark_back labelled = As ∷ (Name ∷ [])
mark_back flagged = As ∷ (Name ∷ [])

-- the sign of a negated check, and a title
abbrev pub negation : Bool → List Sort
negation true = Tilde ∷ []
negation false = []

abbrev pub heading : Bool → List Sort
heading true = Title ∷ []
heading false = []

-- a binding, and those that follow in a group
abbrev pub spell_binding : Tree → List Sort
spell_binding t = Name ∷ (Equals ∷ spell t)

abbrev pub spell_more : List Tree → List Sort
spell_more [] = []
spell_more (t ∷ ts) = (And ∷ spell_binding t) ++ spell_more ts

-- the sorts that a statement, statements, and a text are written with
abbrev pub spell_statement : Statement → List Sort
spell_statement (binds t) = Let ∷ spell_binding t
spell_statement (groups t ts) = Let ∷ (Rec ∷ (spell_binding t ++ spell_more ts))
spell_statement (checks m n w t) = mark_front m ++ (negation n ++ (word_sort w ∷ (spell t ++ mark_back m)))

abbrev pub spell_statements : List Statement → List Sort
spell_statements [] = []
spell_statements (s ∷ ss) = spell_statement s ++ spell_statements ss

abbrev pub spell_text : Sentence → List Sort
spell_text x = heading x.titled ++ spell_statements x.statements

-- every expression is well grouped
abbrev pub AllWell : List Tree → Type 0
AllWell [] = Unit {0}
AllWell (t ∷ ts) = Well t × AllWell ts

abbrev pub WellStatement : Statement → Type 0
WellStatement (binds t) = Well t
WellStatement (groups t ts) = Well t × AllWell ts
WellStatement (checks m n w t) = Well t

abbrev pub WellStatements : List Statement → Type 0
WellStatements [] = Unit {0}
WellStatements (s ∷ ss) = WellStatement s × WellStatements ss
