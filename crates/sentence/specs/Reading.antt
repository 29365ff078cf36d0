-- What reading sorts as a sentence means. Assumes nothing.
use Rattle.std.specs.Prelude.{List, Ok, Err, Result}
use Rattle.sentence.specs.declared.sort.Sort.{Sort}
use Rattle.sentence.specs.declared.fault.SentenceFault.{SentenceFault}
use Rattle.sentence.specs.declared.fault.SentenceFault.TheVariants.{Memory, Place}
use Rattle.sentence.specs.declared.statement.Sentence as sentence
use Rattle.sentence.specs.Texts.{Writes, RefusedAt}
use Rattle.sentence.specs.Statements.{sentence_of}

-- the sentence that is written so, or the place of the refusal, or want of memory
abbrev pub ReadAs : List Sort → Result sentence.Sentence SentenceFault → Type 0
ReadAs ts (Ok x) = Writes ts (sentence_of x)
ReadAs ts (Err Memory) = Unit {0}
ReadAs ts (Err (Place k)) = RefusedAt ts k
