-- What is promised of kinds and recursion, in rules and relations. Assumes nothing.
use Rattle.std.specs.Prelude.{◌≡◌, ℕ, ◌+◌, ◌<◌, ◌≤◌, false, ◌⊎◌, ◌↔◌, List, [], length}
use Rattle.finite.specs.Lists.{In, At}
use Rattle.term.specs.Terms.{Given, Term, given, bound, unbound, test, complement, ended, joined, Post, Infix, bar, semicolon, backslash, ampersand, product}
use Rattle.term.specs.Least.{least, Lowest}
use Rattle.term.specs.Kinds.{Kind, set, relation, torn, given_kind, kind, kind_faults}
use Rattle.term.specs.Recursion.{denied}

-- what is computed is the lowest
abbrev pub LeastIsLowest : Type 0
LeastIsLowest = (ks : List ℕ) → Lowest ks (least ks)

-- the signs that take two of one kind
abbrev pub Alike : Infix → Type 0
Alike i = (i ≡ bar) ⊎ (i ≡ backslash) ⊎ (i ≡ ampersand)

-- the rules of kinds: which terms are of which kind, where the kinds of bindings are known by their numbers
pub data OfKind (known : List Kind) : Term → Kind → Type 0 where
  of_given : (g : Given) → OfKind known (given g) (given_kind g)
  of_bound : (k i : ℕ) (κ : Kind) → At known i κ → OfKind known (bound k i) κ
  of_test : (k : ℕ) (t : Term) → OfKind known t set → OfKind known (test k t) relation
  of_complement : (t : Term) (κ : Kind) → OfKind known t κ → OfKind known (complement t) κ
  of_ended : (k : ℕ) (p : Post) (t : Term) → OfKind known t relation → OfKind known (ended k p t) relation
  of_alike : (k : ℕ) (i : Infix) (l r : Term) (κ : Kind) → Alike i → OfKind known l κ → OfKind known r κ → OfKind known (joined k i l r) κ
  of_sequence : (k : ℕ) (l r : Term) → OfKind known l relation → OfKind known r relation → OfKind known (joined k semicolon l r) relation
  of_product : (k : ℕ) (l r : Term) → OfKind known l set → OfKind known r set → OfKind known (joined k product l r) relation

-- every binding's kind is known: none is torn
abbrev pub Untorn : List Kind → Type 0
Untorn known = (i : ℕ) → At known i torn → ⊥

-- the bindings that a term names are known, and each of its names means something
abbrev pub Resolved : ℕ → Term → Type 0
Resolved n (given g) = Unit {0}
Resolved n (bound k i) = i < n
Resolved n (unbound k) = ⊥
Resolved n (test k t) = Resolved n t
Resolved n (complement t) = Resolved n t
Resolved n (ended k p t) = Resolved n t
Resolved n (joined k i l r) = Resolved n l × Resolved n r

-- a term has no fault exactly when the rules give it a kind, which is then the one that is computed
pub record KindsByRules (known : List Kind) (t : Term) : Type 0 where
  pub of : kind_faults known t ≡ [] → OfKind known t (kind known t)
  pub only : (κ : Kind) → OfKind known t κ → (kind_faults known t ≡ []) × (kind known t ≡ κ)

abbrev pub RulesOfKinds : Type 0
RulesOfKinds = (known : List Kind) (t : Term) → Untorn known → Resolved (length known) t → KindsByRules known t

-- the binding of this number is named in the term, by this token
pub data Named (i k : ℕ) : Term → Type 0 where
  here : Named i k (bound k i)
  in_test : (j : ℕ) (t : Term) → Named i k t → Named i k (test j t)
  in_complement : (t : Term) → Named i k t → Named i k (complement t)
  in_ended : (j : ℕ) (p : Post) (t : Term) → Named i k t → Named i k (ended j p t)
  in_left : (j : ℕ) (s : Infix) (l r : Term) → Named i k l → Named i k (joined j s l r)
  in_right : (j : ℕ) (s : Infix) (l r : Term) → Named i k r → Named i k (joined j s l r)

-- it is named under `~` or right of `\`, at any depth
pub data NamedDenied (i k : ℕ) : Term → Type 0 where
  under : (t : Term) → Named i k t → NamedDenied i k (complement t)
  right_of : (j : ℕ) (l r : Term) → Named i k r → NamedDenied i k (joined j backslash l r)
  in_test : (j : ℕ) (t : Term) → NamedDenied i k t → NamedDenied i k (test j t)
  in_ended : (j : ℕ) (p : Post) (t : Term) → NamedDenied i k t → NamedDenied i k (ended j p t)
  in_left : (j : ℕ) (s : Infix) (l r : Term) → NamedDenied i k l → NamedDenied i k (joined j s l r)
  in_right : (j : ℕ) (s : Infix) (l r : Term) → NamedDenied i k r → NamedDenied i k (joined j s l r)

-- the tokens at fault are those by which a binding of the group is named so
abbrev pub DeniedNames : Type 0
DeniedNames = (first many k : ℕ) (t : Term) → In k (denied first many false t) ↔ ((i : ℕ) × (first ≤ i) × (i < first + many) × NamedDenied i k t)
