-- Each star of a text told apart, as its tree has it: a product or a closure. Assumes nothing.
use Rattle.std.specs.Prelude.{◌≡◌, ◌⊎◌, List, [], ◌∷◌, ◌++◌, map}
use Rattle.sentence.specs.declared.sort.Sort.{Sort}
use Rattle.sentence.specs.declared.sort.Sort.TheVariants.{Name, Let, Rec, And, Universe, NoPairs, NoEvents, Open, OpenSquare, Star, Tilde, Equals}
use Rattle.sentence.specs.Trees.{leaf_sort, open_sort, close_sort, post_sort, infix_sort, word_sort, mark_front, mark_back, negation, heading, Post, plus, closure, question, inverse, Infix, bar, semicolon, backslash, ampersand, product, Tree, atom, inside, tilde, ended, joined, Statement, binds, groups, checks, Sentence}

-- a star of a product, a star of a closure, or any other sort
pub data Sign : Type 0 where
  of_product of_closure : Sign
  other : Sort → Sign

abbrev pub sign_sort : Sign → Sort
sign_sort of_product = Star
sign_sort of_closure = Star
sign_sort (other s) = s

abbrev pub post_sign : Post → Sign
post_sign plus = other (post_sort plus)
post_sign closure = of_closure
post_sign question = other (post_sort question)
post_sign inverse = other (post_sort inverse)

abbrev pub infix_sign : Infix → Sign
infix_sign bar = other (infix_sort bar)
infix_sign semicolon = other (infix_sort semicolon)
infix_sign backslash = other (infix_sort backslash)
infix_sign ampersand = other (infix_sort ampersand)
infix_sign product = of_product

-- a tree, a statement and a text as they are written, the stars told apart
abbrev pub signs : Tree → List Sign
signs (atom l) = other (leaf_sort l) ∷ []
signs (inside b t) = other (open_sort b) ∷ (signs t ++ (other (close_sort b) ∷ []))
signs (tilde t) = other Tilde ∷ signs t
signs (ended t p) = signs t ++ (post_sign p ∷ [])
signs (joined i l r) = signs l ++ (infix_sign i ∷ signs r)

abbrev pub signs_more : List Tree → List Sign
signs_more [] = []
signs_more (t ∷ ts) = (other And ∷ (other Name ∷ (other Equals ∷ signs t))) ++ signs_more ts

abbrev pub signs_statement : Statement → List Sign
signs_statement (binds t) = other Let ∷ (other Name ∷ (other Equals ∷ signs t))
signs_statement (groups t ts) = other Let ∷ (other Rec ∷ ((other Name ∷ (other Equals ∷ signs t)) ++ signs_more ts))
signs_statement (checks m n w t) = map other (mark_front m) ++ (map other (negation n) ++ (other (word_sort w) ∷ (signs t ++ map other (mark_back m))))

abbrev pub signs_statements : List Statement → List Sign
signs_statements [] = []
signs_statements (s ∷ ss) = signs_statement s ++ signs_statements ss

abbrev pub signs_text : Sentence → List Sign
signs_text x = map other (heading x.titled) ++ signs_statements x.statements

-- what can begin an atom: a name, `_`, `0`, `{}`, `(` or `[`
abbrev pub atom_sorts : List Sort
atom_sorts = Name ∷ (Universe ∷ (NoPairs ∷ (NoEvents ∷ (Open ∷ (OpenSquare ∷ [])))))

abbrev pub OneOf : Sort → List Sort → Type 0
OneOf s [] = ⊥
OneOf s (x ∷ xs) = (s ≡ x) ⊎ OneOf s xs

-- one of them comes first
abbrev pub AtomFirst : List Sign → Type 0
AtomFirst [] = ⊥
AtomFirst (s ∷ rest) = OneOf (sign_sort s) atom_sorts

-- what the sign behind it says of a star: the product before what can begin an atom, else the closure; and no other sort is a star
abbrev pub ToldBy : Sign → List Sign → Type 0
ToldBy of_product rest = AtomFirst rest
ToldBy of_closure rest = AtomFirst rest → ⊥
ToldBy (other s) rest = s ≡ Star → ⊥
