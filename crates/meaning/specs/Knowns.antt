-- What is known behind the statements of a text, as values. Assumes nothing.
use Rattle.std.specs.Prelude.{◌≡◌, ◌+◌, ◌≤◌, List, [], map, length}
use Rattle.relation.specs.declared.value.Value.{Value}
use Rattle.term.specs.Statements.{Statement}
use Rattle.term.specs.Recursion.{binds, statement_denied, all_denied, many_bindings}
use Rattle.given.specs.declared.base.Base.{Base}
use Rattle.given.specs.Bases.{base_meaning}
use Rattle.meaning.specs.Groups.{known_after, bindings_mean}
use Rattle.meaning.specs.Tables.{value_meaning, AllMean}

-- the values of a statement's bindings stand behind those that were known, where no name is denied in its group and there is room
abbrev pub Added : Base → Statement → List Value → List Value → Type 0
Added base s old new = statement_denied (length old) s ≡ [] → length old + binds s ≤ 64 → AllMean new (known_after (base_meaning base) (map value_meaning old) s)

-- the values mean what the bindings of a text mean, where no name is denied in its group and at most 64 are bound
abbrev pub Known : Base → List Statement → List Value → Type 0
Known base ss values = all_denied 0 ss ≡ [] → many_bindings ss ≤ 64 → AllMean values (bindings_mean (base_meaning base) [] ss)
