-- Names: which are given, and which binding one means. Assumes nothing.
use Rattle.std.specs.Prelude.{ℕ, ◌+◌, ◌<◌, Bool, cond, List, [], ◌∷◌, map, drop, is_some, Some, None, codes, Option}
use Rattle.std.specs.Str.{bytes_eq}
use Rattle.finite.specs.Lists.{At}
use Rattle.token.specs.Tokens.{Word, name, title, key, sign}
use Rattle.term.specs.declared.term.Given.{Given}
use Rattle.term.specs.declared.term.Given.TheVariants.{Reads, Writes, Fences, Branches, Memory, Initial, Settled, ProgramOrder, ReadsFrom, SameLocation, OtherThread, Identity, Coherence}
use Rattle.term.specs.Terms.{Term, given, bound, unbound}
use Rattle.cat.specs.Sorts.{Tokens}

-- the bytes of a name; of no other token
abbrev pub name_of : Word → List ℕ
name_of (name bytes) = bytes
name_of (title bytes) = []
name_of (key k) = []
name_of (sign s) = []

abbrev pub first_name : Tokens → List ℕ
first_name [] = []
first_name (t ∷ ts) = name_of t.1

-- the bytes of the name at a token
abbrev pub name_at : Tokens → ℕ → List ℕ
name_at found k = first_name (drop k found)

-- the given names with what they stand for: relations, and sets besides
abbrev pub given_relations : List (List ℕ × Given)
given_relations = (codes "po", ProgramOrder) ∷ (codes "rf", ReadsFrom) ∷ (codes "loc", SameLocation) ∷ (codes "ext", OtherThread) ∷ (codes "id", Identity) ∷ (codes "co", Coherence) ∷ []

abbrev pub given_names : List (List ℕ × Given)
given_names =
    (codes "R", Reads) ∷ (codes "W", Writes) ∷ (codes "F", Fences) ∷ (codes "B", Branches) ∷ (codes "M", Memory) ∷ (codes "IW", Initial) ∷ (codes "FW", Settled) ∷ given_relations

-- what stands beside a name in such a list
unfoldable pub beside : List ℕ → List (List ℕ × Given) → Option Given
beside n [] = None
beside n (g ∷ more) = cond (bytes_eq n g.0) (Some g.1) (beside n more)

unfoldable pub given_as : List ℕ → Option Given
given_as n = beside n given_names

-- the number of the latest of some bound names that is this one; they are numbered from i on, and another may have been found before them
unfoldable pub latest_from : List ℕ → ℕ → List (List ℕ) → Option ℕ → Option ℕ
latest_from n i [] found = found
latest_from n i (m ∷ more) found = latest_from n (i + 1) more (cond (bytes_eq n m) (Some i) found)

abbrev pub latest : List ℕ → List (List ℕ) → Option ℕ
latest n names = latest_from n 0 names None

-- the name is among these
abbrev pub among : List ℕ → List (List ℕ) → Bool
among n names = is_some (latest n names)

-- what a name means: what is given under it, else the latest binding, else nothing
abbrev pub meant : ℕ → Option Given → Option ℕ → Term
meant k (Some g) i = given g
meant k None (Some i) = bound k i
meant k None None = unbound k

abbrev pub name_term : ℕ → List ℕ → List (List ℕ) → Term
name_term k n names = meant k (given_as n) (latest n names)

-- the number is that of the latest binding of the name; or the name is not bound
abbrev pub Refers : List ℕ → List (List ℕ) → Option ℕ → Type 0
Refers n names None = (i : ℕ) → At names i n → ⊥
Refers n names (Some i) = At names i n × ((j : ℕ) → i < j → At names j n → ⊥)

-- the names at some tokens
abbrev pub names_of : Tokens → List ℕ → List (List ℕ)
names_of found ks = map (name_at found) ks
