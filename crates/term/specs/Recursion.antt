-- Recursion: where a name of a let rec may not occur in its own group. Assumes nothing.
use Rattle.std.specs.Prelude.{ℕ, ◌+◌, Bool, true, false, ◌&&◌, ◌||◌, List, [], ◌∷◌, ◌++◌, length, nat_le, nat_lt}
use Rattle.term.specs.Terms.{Term, given, bound, unbound, test, complement, ended, joined, Infix, bar, semicolon, backslash, ampersand, product}
use Rattle.term.specs.Statements.{Binding, Statement, lets, groups, checks}
use Rattle.term.specs.Least.{fault_if}

-- the number is that of a binding of the group: one of so many from the first on
abbrev pub of_group : ℕ → ℕ → ℕ → Bool
of_group first many i = nat_le first i && nat_lt i (first + many)

-- what stands right of this sign is denied
abbrev pub denies_right : Infix → Bool
denies_right bar = false
denies_right semicolon = false
denies_right backslash = true
denies_right ampersand = false
denies_right product = false

-- the tokens of the group's names under `~` or right of `\`; the flag says whether the term itself stands so
unfoldable pub denied : ℕ → ℕ → Bool → Term → List ℕ
denied first many under (given g) = []
denied first many under (bound k i) = fault_if (under && of_group first many i) k
denied first many under (unbound k) = []
denied first many under (test k t) = denied first many under t
denied first many under (complement t) = denied first many true t
denied first many under (ended k p t) = denied first many under t
denied first many under (joined k i l r) = denied first many under l ++ denied first many (under || denies_right i) r

-- of the bindings of a group
unfoldable pub group_denied : ℕ → ℕ → List Binding → List ℕ
group_denied first many [] = []
group_denied first many (b ∷ bs) = denied first many false b.term ++ group_denied first many bs

-- how many bindings a statement has
abbrev pub binds : Statement → ℕ
binds (lets b) = 1
binds (groups bs) = length bs
binds (checks c) = 0

-- of a statement, with so many bindings before it; of all statements
abbrev pub statement_denied : ℕ → Statement → List ℕ
statement_denied n (lets b) = []
statement_denied n (groups bs) = group_denied n (length bs) bs
statement_denied n (checks c) = []

unfoldable pub all_denied : ℕ → List Statement → List ℕ
all_denied n [] = []
all_denied n (s ∷ ss) = statement_denied n s ++ all_denied (n + binds s) ss

-- how many bindings statements have
unfoldable pub many_bindings : List Statement → ℕ
many_bindings [] = 0
many_bindings (s ∷ ss) = binds s + many_bindings ss
