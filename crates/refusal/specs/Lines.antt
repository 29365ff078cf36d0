-- The line of a refusal. Assumes nothing.
use Rattle.std.specs.Prelude.{ℕ, List, ◌++◌, codes, decimal}
use Rattle.refusal.specs.declared.Refusal.{Refusal}

-- its number, then its place
abbrev pub refusal_text : Refusal → List ℕ
refusal_text r = codes "REFUSED " ++ (decimal r.number ++ (codes " " ++ decimal r.place))
