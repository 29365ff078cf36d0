-- Which sorts are a text, which begin one, and where others are refused. Assumes nothing.
use Rattle.std.specs.Prelude.{◌≡◌, ℕ, ◌+◌, ◌<◌, ◌⊎◌, List, ◌++◌, length, take}
use Rattle.sentence.specs.declared.sort.Sort.{Sort}
use Rattle.sentence.specs.Trees.{Sentence, spell_text, WellStatements}

-- the sentence is well grouped, and these sorts are how it is written
pub record Writes (ts : List Sort) (x : Sentence) : Type 0 where
  pub well : WellStatements x.statements
  pub spells : spell_text x ≡ ts

-- some sentence is written so
abbrev pub Text : List Sort → Type 0
Text ts = (x : Sentence) × Writes ts x

-- some text begins with these sorts
abbrev pub Begins : List Sort → Type 0
Begins ts = (more : List Sort) × Text (ts ++ more)

-- some text has the sorts before k; none has those up to and including k, or at the end they are no text
pub record RefusedAt (ts : List Sort) (k : ℕ) : Type 0 where
  pub before : Begins (take k ts)
  pub fault : ((k < length ts) × (Begins (take (k + 1) ts) → ⊥)) ⊎ ((k ≡ length ts) × (Text ts → ⊥))
