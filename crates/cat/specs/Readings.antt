-- Reading a text: which statements it has, and when it is refused. Assumes nothing.
use Rattle.std.specs.Prelude.{◌≡◌, ℕ, ◌≤◌, List, [], ◌∷◌, length, drop, Some, Ok, Err, Result, ◌≢◌}
use Rattle.token.specs.declared.fault.ReadFault.TheVariants as lexing
use Rattle.token.specs.Lexing.{Lexes}
use Rattle.token.specs.Lexings.{Told as LexedAs}
use Rattle.sentence.specs.Texts.{Writes, RefusedAt}
use Rattle.sentence.specs.Trees.{Sentence}
use Rattle.term.specs.Statements.{Statement}
use Rattle.term.specs.Least.{Lowest}
use Rattle.term.specs.Names.{name_faults}
use Rattle.term.specs.Kinds.{all_kinds}
use Rattle.term.specs.Recursion.{all_denied}
use Rattle.cat.specs.declared.fault.ModelFault.{ModelFault}
use Rattle.cat.specs.declared.fault.ModelFault.TheVariants as fault
use Rattle.cat.specs.Sorts.{Tokens, sorts_of}
use Rattle.cat.specs.Limits.{WithinLimits, FirstOver}
use Rattle.cat.specs.Resolving.{resolved_statements}

-- a text of at most 8,192 bytes with at most 1,024 tokens: these
pub record Lexed (text : List ℕ) (found : Tokens) : Type 0 where
  pub short : length text ≤ 8192
  pub lexes : Lexes text found
  pub few : length found ≤ 1024

-- the place of the first of some tokens; behind the last one, the text's end
abbrev pub first_place : List ℕ → Tokens → ℕ
first_place text [] = length text
first_place text (t ∷ ts) = t.0

-- the place of a token
abbrev pub place_of : List ℕ → Tokens → ℕ → ℕ
place_of text found k = first_place text (drop k found)

-- its tokens are written as a sentence
pub record Phrased (text : List ℕ) (found : Tokens) (x : Sentence) : Type 0 where
  pub lexed : Lexed text found
  pub writes : Writes (sorts_of found) x

-- within the limits, and with its names resolved it is these statements
pub record Resolves (text : List ℕ) (found : Tokens) (ss : List Statement) : Type 0 where
  pub sentence : Sentence
  pub phrased : Phrased text found sentence
  pub within : WithinLimits (sorts_of found)
  pub are : ss ≡ resolved_statements found sentence

-- no name is at fault; besides, no kind is; besides, no recursion is
abbrev pub Named : List Statement → Type 0
Named ss = name_faults ss ≡ []

abbrev pub Kinded : List Statement → Type 0
Kinded ss = Named ss × (all_kinds [] ss ≡ [])

abbrev pub Formed : List Statement → Type 0
Formed ss = Kinded ss × (all_denied 0 ss ≡ [])

-- the text is read as these statements
pub record Reads (text : List ℕ) (ss : List Statement) : Type 0 where
  pub found : Tokens
  pub resolves : Resolves text found ss
  pub formed : Formed ss

-- the tokens are no sentence, and this is the place of the first that no text has there, or the text's end
pub record Misphrased (text : List ℕ) (place : ℕ) : Type 0 where
  pub found : Tokens
  pub lexed : Lexed text found
  pub token : ℕ
  pub refused : RefusedAt (sorts_of found) token
  pub here : place ≡ place_of text found token

-- a limit is passed, first at this place
pub record Overfull (text : List ℕ) (place : ℕ) : Type 0 where
  pub found : Tokens
  pub sentence : Sentence
  pub phrased : Phrased text found sentence
  pub token : ℕ
  pub over : FirstOver (sorts_of found) token
  pub here : place ≡ place_of text found token

-- statements with no earlier fault have faults of this sort, the lowest at this place
pub record Faulty (text : List ℕ) (Clear : List Statement → Type 0) (faults : List Statement → List ℕ) (place : ℕ) : Type 0 where
  pub found : Tokens
  pub statements : List Statement
  pub resolves : Resolves text found statements
  pub clear : Clear statements
  pub token : ℕ
  pub lowest : Lowest (faults statements) (Some token)
  pub here : place ≡ place_of text found token

-- the text is refused with this fault: each comes only where no fault listed before it does
abbrev pub Refused : List ℕ → ModelFault → Type 0
Refused text fault.TooLong = LexedAs text (Err lexing.TooLong)
Refused text (fault.Stray place) = LexedAs text (Err (lexing.Stray place))
Refused text (fault.TooManyTokens place) = LexedAs text (Err (lexing.TooManyTokens place))
Refused text (fault.Sentence place) = Misphrased text place
Refused text (fault.Limit place) = Overfull text place
Refused text (fault.Name place) = Faulty text (λ ss. Unit {0}) name_faults place
Refused text (fault.Kind place) = Faulty text Named (all_kinds []) place
Refused text (fault.Recursion place) = Faulty text Kinded (all_denied 0) place
Refused text fault.Memory = Unit {0}

-- what reading tells: the statements, or the fault
abbrev pub Told : List ℕ → Result (List Statement) ModelFault → Type 0
Told text (Ok ss) = Reads text ss
Told text (Err f) = Refused text f

-- a text has one answer, where there is memory
abbrev pub OneReading : List ℕ → Type 0
OneReading text = (r s : Result (List Statement) ModelFault) → Told text r → Told text s → (r ≢ Err fault.Memory) → (s ≢ Err fault.Memory) → r ≡ s

-- some text is read as these statements
abbrev pub HasText : List Statement → Type 0
HasText ss = (text : List ℕ) × Reads text ss
