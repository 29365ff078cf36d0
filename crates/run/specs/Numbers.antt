-- The numbers of the rules. Assumes nothing.
use Rattle.std.specs.Prelude.{ℕ}
use Rattle.run.specs.declared.rule.Rule.{Rule}
use Rattle.run.specs.declared.rule.Rule.TheVariants.{Ranges, Steps, Initials, Sources, Settlings, Initialised, Tied}

-- the rules are numbered in the order in which they are tried
abbrev pub rule_number : Rule → ℕ
rule_number Ranges = 1
rule_number Steps = 2
rule_number Initials = 3
rule_number Sources = 4
rule_number Settlings = 5
rule_number Initialised = 6
rule_number Tied = 7
