-- The answer of lexing: when a text is refused, and which tokens it has. Assumes nothing.
use Rattle.std.specs.Prelude.{◌≡◌, ℕ, ◌<◌, ◌≤◌, List, ◌∷◌, ◌++◌, length, Ok, Err, Result, ◌≢◌}
use Rattle.token.specs.declared.fault.ReadFault.{ReadFault}
use Rattle.token.specs.declared.fault.ReadFault.TheVariants.{TooLong, Stray, TooManyTokens, Memory}
use Rattle.token.specs.Tokens.{Word}
use Rattle.token.specs.Lexing.{Lexes, Strays}

-- the whole text is blanks, comments and tokens
pub record Lexable (text : List ℕ) : Type 0 where
  pub found : List (ℕ × Word)
  pub lexes : Lexes text found

-- it is, and its 1,025th token stands at the place
pub record Crowded (text : List ℕ) (place : ℕ) : Type 0 where
  pub found : List (ℕ × Word)
  pub lexes : Lexes text found
  pub before : List (ℕ × Word)
  pub word : Word
  pub after : List (ℕ × Word)
  pub splits : found ≡ before ++ ((place, word) ∷ after)
  pub full : length before ≡ 1024

-- the tokens of a text with their places; or the first listed refusal: over 8,192 bytes, else a stray byte, else the 1,025th
-- token. Memory can be wanting only where a text is short enough and has no stray byte
abbrev pub Told : List ℕ → Result (List (ℕ × Word)) ReadFault → Type 0
Told text (Ok found) = (length text ≤ 8192) × Lexes text found × (length found ≤ 1024)
Told text (Err TooLong) = 8192 < length text
Told text (Err (Stray place)) = (length text ≤ 8192) × Strays text place
Told text (Err (TooManyTokens place)) = (length text ≤ 8192) × Crowded text place
Told text (Err Memory) = (length text ≤ 8192) × Lexable text

-- a text has one answer, where there is memory
abbrev pub OneLexing : List ℕ → Type 0
OneLexing text = (r s : Result (List (ℕ × Word)) ReadFault) → Told text r → Told text s → (r ≢ Err Memory) → (s ≢ Err Memory) → r ≡ s
