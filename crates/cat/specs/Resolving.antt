-- Resolving: a sentence with its tokens as statements whose names are resolved. Assumes nothing.
use Rattle.std.specs.Prelude.{ℕ, ◌+◌, Bool, ◌||◌, List, [], ◌∷◌, ◌++◌, length, is_some}
use Rattle.sentence.specs.declared.sign.Leaf.TheVariants.{Name, Universe, NoPairs, NoEvents}
use Rattle.sentence.specs.declared.sign.Bracket.{Bracket}
use Rattle.sentence.specs.declared.sign.Bracket.TheVariants.{Round, Square}
use Rattle.sentence.specs.Trees.{Tree, atom, inside, tilde, ended, joined, Mark, plain, labelled, flagged, Statement, binds, groups, checks, Sentence, spell, spell_binding, spell_statement, mark_front, negation, heading}
use Rattle.term.specs.declared.term.Given.TheVariants as given
use Rattle.term.specs.Terms as term
use Rattle.term.specs.Statements as resolved
use Rattle.cat.specs.Sorts.{Tokens}
use Rattle.cat.specs.Scopes.{name_at, given_as, among, names_of, name_term}

-- a term in brackets, the opening one at a token: round ones change nothing, square ones give identity on a set
abbrev pub between : Bracket → ℕ → term.Term → term.Term
between Round s t = t
between Square s t = term.test s t

-- an expression that begins at a token; the bound names are listed by their tokens, in the order of their numbers
unfoldable pub resolve : Tokens → List ℕ → ℕ → Tree → term.Term
resolve found bound s (atom Name) = name_term s (name_at found s) (names_of found bound)
resolve found bound s (atom Universe) = term.given given.Universe
resolve found bound s (atom NoPairs) = term.given given.NoPairs
resolve found bound s (atom NoEvents) = term.given given.NoEvents
resolve found bound s (inside b t) = between b s (resolve found bound (s + 1) t)
resolve found bound s (tilde t) = term.complement (resolve found bound (s + 1) t)
resolve found bound s (ended t p) = term.ended (s + length (spell t)) p (resolve found bound s t)
resolve found bound s (joined i l r) = term.joined (s + length (spell l)) i (resolve found bound s l) (resolve found bound (s + length (spell l) + 1) r)

-- a binding whose name stands at a token, with the group's names before it: a name that is given, or among those, cannot be bound
abbrev pub resolve_binding : Tokens → List ℕ → List ℕ → ℕ → Tree → resolved.Binding
resolve_binding found bound before s t =
    record { token = s; taken = is_some (given_as (name_at found s)) || among (name_at found s) (names_of found before); term = resolve found bound (s + 2) t }

-- the bindings of a group, the first name at a token; the next name stands behind an `and`
unfoldable pub resolve_group : Tokens → List ℕ → List ℕ → ℕ → List Tree → List resolved.Binding
resolve_group found bound before s [] = []
resolve_group found bound before s (t ∷ ts) = resolve_binding found bound before s t ∷ resolve_group found bound (before ++ (s ∷ [])) (s + length (spell_binding t) + 1) ts

-- the tokens of a group's names
unfoldable pub group_tokens : ℕ → List Tree → List ℕ
group_tokens s [] = []
group_tokens s (t ∷ ts) = s ∷ group_tokens (s + length (spell_binding t) + 1) ts

-- a check's mark, its label at a token
abbrev pub mark_at : Tokens → ℕ → Mark → resolved.Mark
mark_at found k plain = resolved.plain
mark_at found k labelled = resolved.labelled (name_at found k)
mark_at found k flagged = resolved.flagged (name_at found k)

-- how many tokens stand before the word of a check
abbrev pub before_word : Mark → Bool → ℕ
before_word m n = length (mark_front m) + length (negation n)

-- a statement that begins at a token: in a let the name is not yet bound in its own expression, a group's names stand in the group
abbrev pub resolve_statement : Tokens → List ℕ → ℕ → Statement → resolved.Statement
resolve_statement found bound s (binds t) = resolved.lets (resolve_binding found bound [] (s + 1) t)
resolve_statement found bound s (groups t ts) = resolved.groups (resolve_group found (bound ++ group_tokens (s + 2) (t ∷ ts)) [] (s + 2) (t ∷ ts))
resolve_statement found bound s (checks m n w t) =
    let k = s + before_word m n in
    resolved.checks (record { mark = mark_at found (k + 1 + length (spell t) + 1) m; negated = n; token = k; word = w; term = resolve found bound (k + 1) t })

-- the tokens of the names that are bound behind it
abbrev pub bound_after : List ℕ → ℕ → Statement → List ℕ
bound_after bound s (binds t) = bound ++ ((s + 1) ∷ [])
bound_after bound s (groups t ts) = bound ++ group_tokens (s + 2) (t ∷ ts)
bound_after bound s (checks m n w t) = bound

-- statements that begin at a token
unfoldable pub resolve_statements : Tokens → List ℕ → ℕ → List Statement → List resolved.Statement
resolve_statements found bound s [] = []
resolve_statements found bound s (x ∷ xs) = resolve_statement found bound s x ∷ resolve_statements found (bound_after bound s x) (s + length (spell_statement x)) xs

-- the statements of a sentence
abbrev pub resolved_statements : Tokens → Sentence → List resolved.Statement
resolved_statements found x = resolve_statements found [] (length (heading x.titled)) x.statements
