use Rattle.std.proofs.Common.{◌≡◌, ℕ, ◌<◌, true, List, [], ◌∷◌, get_or, sym, refl, subst, rules}
use Rattle.token.specs.declared.class.Class.{Class}
use Rattle.token.specs.declared.class.Class.TheVariants.{Other, Blank, Letter, Digit, Mark, Sign}
use Rattle.token.specs.Classes.{class_number, class, Classified}
use Rattle.token.proofs.Table.{right, right_at}
use Rattle.token.proofs.Classes.{classified}
use Rattle.token.proofs.class.class_of.Goals as goal

-- the table, as the source has it
classes : List Class
classes =
    Other ∷ Other ∷ Other ∷ Other ∷ Other ∷ Other ∷ Other ∷ Other ∷ Other ∷ Blank ∷ Blank ∷ Other ∷ Other ∷ Blank ∷ Other ∷ Other ∷
    Other ∷ Other ∷ Other ∷ Other ∷ Other ∷ Other ∷ Other ∷ Other ∷ Other ∷ Other ∷ Other ∷ Other ∷ Other ∷ Other ∷ Other ∷ Other ∷
    Blank ∷ Other ∷ Sign ∷ Other ∷ Other ∷ Other ∷ Sign ∷ Other ∷ Sign ∷ Sign ∷ Sign ∷ Sign ∷ Other ∷ Mark ∷ Mark ∷ Other ∷
    Digit ∷ Digit ∷ Digit ∷ Digit ∷ Digit ∷ Digit ∷ Digit ∷ Digit ∷ Digit ∷ Digit ∷ Other ∷ Sign ∷ Other ∷ Sign ∷ Other ∷ Sign ∷
    Other ∷ Letter ∷ Letter ∷ Letter ∷ Letter ∷ Letter ∷ Letter ∷ Letter ∷ Letter ∷ Letter ∷ Letter ∷ Letter ∷ Letter ∷ Letter ∷ Letter ∷ Letter ∷
    Letter ∷ Letter ∷ Letter ∷ Letter ∷ Letter ∷ Letter ∷ Letter ∷ Letter ∷ Letter ∷ Letter ∷ Letter ∷ Sign ∷ Sign ∷ Sign ∷ Sign ∷ Mark ∷
    Other ∷ Letter ∷ Letter ∷ Letter ∷ Letter ∷ Letter ∷ Letter ∷ Letter ∷ Letter ∷ Letter ∷ Letter ∷ Letter ∷ Letter ∷ Letter ∷ Letter ∷ Letter ∷
    Letter ∷ Letter ∷ Letter ∷ Letter ∷ Letter ∷ Letter ∷ Letter ∷ Letter ∷ Letter ∷ Letter ∷ Letter ∷ Sign ∷ Sign ∷ Sign ∷ Sign ∷ Other ∷
    Other ∷ Other ∷ Other ∷ Other ∷ Other ∷ Other ∷ Other ∷ Other ∷ Other ∷ Other ∷ Other ∷ Other ∷ Other ∷ Other ∷ Other ∷ Other ∷
    Other ∷ Other ∷ Other ∷ Other ∷ Other ∷ Other ∷ Other ∷ Other ∷ Other ∷ Other ∷ Other ∷ Other ∷ Other ∷ Other ∷ Other ∷ Other ∷
    Other ∷ Other ∷ Other ∷ Other ∷ Other ∷ Other ∷ Other ∷ Other ∷ Other ∷ Other ∷ Other ∷ Other ∷ Other ∷ Other ∷ Other ∷ Other ∷
    Other ∷ Other ∷ Other ∷ Other ∷ Other ∷ Other ∷ Other ∷ Other ∷ Other ∷ Other ∷ Other ∷ Other ∷ Other ∷ Other ∷ Other ∷ Other ∷
    Other ∷ Other ∷ Other ∷ Other ∷ Other ∷ Other ∷ Other ∷ Other ∷ Other ∷ Other ∷ Other ∷ Other ∷ Other ∷ Other ∷ Other ∷ Other ∷
    Other ∷ Other ∷ Other ∷ Other ∷ Other ∷ Other ∷ Other ∷ Other ∷ Other ∷ Other ∷ Other ∷ Other ∷ Other ∷ Other ∷ Other ∷ Other ∷
    Other ∷ Other ∷ Other ∷ Other ∷ Other ∷ Other ∷ Other ∷ Other ∷ Other ∷ Other ∷ Other ∷ Other ∷ Other ∷ Other ∷ Other ∷ Other ∷
    Other ∷ Other ∷ Other ∷ Other ∷ Other ∷ Other ∷ Other ∷ Other ∷ Other ∷ Other ∷ Other ∷ Other ∷ Other ∷ Other ∷ Other ∷ Other ∷ []

-- its rule, computed once over all 256 entries
whole : right 0 classes ≡ true
unfolding classes class
whole = refl

-- and so at each
entry : (b : ℕ) (d : Class) → b < 256 → class_number (get_or classes b d) ≡ class b
unfolding classes
entry b d l = right_at classes b d whole l

pub returns : goal.returns
unfolding classes
returns c =
    let is : class_number (get_or classes c.args.byte Other) ≡ class c.args.byte = entry c.args.byte Other (search rules) in
    record { value = is; rule = subst (Classified c.args.byte) (sym is) (classified c.args.byte) }
