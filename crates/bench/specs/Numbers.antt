-- The numbers by which the refusals of the bench are told. Assumes nothing.
use Rattle.std.specs.Prelude.{ℕ}
use Rattle.refusal.specs.declared.Part.{Part}
use Rattle.refusal.specs.declared.Part.TheVariants.{Enter, Tie, Settle}
use Rattle.refusal.specs.declared.Refusal.{Refusal}
use Rattle.bench.specs.declared.fault.BenchFault.{BenchFault}
use Rattle.bench.specs.declared.fault.BenchFault.TheVariants.{BadNumber, OutOfRange, Clash, NoPair, Mismatch, NoWrite, OtherSettled}

-- a refusal of the bench tells no place
abbrev pub told : ℕ → Part → Refusal
told number part = record { number = number; part = part; place = 0 }

-- each fault of the bench as it is told
abbrev pub bench_refusal : BenchFault → Refusal
bench_refusal BadNumber = told 9 Enter
bench_refusal OutOfRange = told 10 Enter
bench_refusal Clash = told 11 Enter
bench_refusal NoPair = told 12 Tie
bench_refusal Mismatch = told 13 Tie
bench_refusal NoWrite = told 14 Settle
bench_refusal OtherSettled = told 15 Settle
