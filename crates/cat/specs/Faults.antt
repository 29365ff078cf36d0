-- The faults of reading: their numbers, and which of them the lexer finds. Assumes nothing.
use Rattle.std.specs.Prelude.{Some, None, Option}
use Rattle.refusal.specs.declared.Refusal.{Refusal}
use Rattle.refusal.specs.declared.Part.TheVariants.{Read}
use Rattle.token.specs.declared.fault.ReadFault.{ReadFault}
use Rattle.token.specs.declared.fault.ReadFault.TheVariants as lexing
use Rattle.cat.specs.declared.fault.ModelFault.{ModelFault}
use Rattle.cat.specs.declared.fault.ModelFault.TheVariants.{TooLong, Stray, TooManyTokens, Sentence, Limit, Name, Kind, Recursion, Memory}

-- each fault with its number and its place; want of memory has none
abbrev pub model_refusal : ModelFault → Option Refusal
model_refusal TooLong = Some (record { number = 1; part = Read; place = 0 })
model_refusal (Stray place) = Some (record { number = 2; part = Read; place = place })
model_refusal (TooManyTokens place) = Some (record { number = 3; part = Read; place = place })
model_refusal (Sentence place) = Some (record { number = 4; part = Read; place = place })
model_refusal (Limit place) = Some (record { number = 5; part = Read; place = place })
model_refusal (Name place) = Some (record { number = 6; part = Read; place = place })
model_refusal (Kind place) = Some (record { number = 7; part = Read; place = place })
model_refusal (Recursion place) = Some (record { number = 8; part = Read; place = place })
model_refusal Memory = None

-- a fault of the lexer as one of reading
abbrev pub of_lexing : ReadFault → ModelFault
of_lexing lexing.TooLong = TooLong
of_lexing (lexing.Stray place) = Stray place
of_lexing (lexing.TooManyTokens place) = TooManyTokens place
of_lexing lexing.Memory = Memory
