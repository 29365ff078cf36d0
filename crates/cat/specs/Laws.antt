-- What is promised of names and places, in relations. Assumes nothing.
use Rattle.std.specs.Prelude.{◌≡◌, ℕ, ◌<◌, ◌≤◌, ◌↔◌, List, length, Some}
use Rattle.finite.specs.Lists.{In}
use Rattle.token.specs.Lexing.{Lexes}
use Rattle.term.specs.declared.term.Given.{Given}
use Rattle.term.specs.Least.{Lowest}
use Rattle.cat.specs.Sorts.{Tokens}
use Rattle.cat.specs.Scopes.{given_names, given_as, latest, Refers}
use Rattle.cat.specs.Readings.{place_of}

-- the number that is found is that of the latest binding of the name; where none is found, the name is not bound
abbrev pub LatestBinding : Type 0
LatestBinding = (n : List ℕ) (names : List (List ℕ)) → Refers n names (latest n names)

-- a name stands for what is listed beside it, and for nothing else
abbrev pub GivenOnce : Type 0
GivenOnce = (n : List ℕ) (g : Given) → (given_as n ≡ Some g) ↔ In (n, g) given_names

-- of two tokens the later one has the higher place
abbrev pub PlacesRise : Type 0
PlacesRise = (text : List ℕ) (found : Tokens) → Lexes text found → (j k : ℕ) → j < k → k < length found → place_of text found j < place_of text found k

-- every token's place is that of a byte of the text
abbrev pub PlacesWithin : Type 0
PlacesWithin = (text : List ℕ) (found : Tokens) → Lexes text found → (k : ℕ) → k < length found → place_of text found k < length text

-- so the lowest token at fault has the lowest place
abbrev pub LowestHasLowestPlace : Type 0
LowestHasLowestPlace = (text : List ℕ) (found : Tokens) → Lexes text found → (faults : List ℕ) (k : ℕ) → Lowest faults (Some k) → (j : ℕ) → In j faults → place_of text found k ≤ place_of text found j
