-- What a term means, by what is given and what the bindings before it mean. Assumes nothing.
use Rattle.std.specs.Prelude.{List, slice_index_or}
use Rattle.relation.specs.Relations.{Never}
use Rattle.relation.specs.Values.{Meaning, of_pairs}
use Rattle.term.specs.declared.term.Given.{Given}
use Rattle.term.specs.declared.term.Given.TheVariants.{Universe}
use Rattle.term.specs.Terms.{Term, given, bound, unbound, test, complement, ended, joined}
use Rattle.meaning.specs.Operators.{events_of, outside, infixed, postfixed, tested}

-- what each given name means
abbrev pub Base : Type 1
Base = Given → Meaning

-- what a term means; bindings are known by their numbers, and a name without a binding means nothing
unfoldable pub meaning : Base → List Meaning → Term → Meaning
meaning base known (given g) = base g
meaning base known (bound k i) = slice_index_or known i (of_pairs Never)
meaning base known (unbound k) = of_pairs Never
meaning base known (test k t) = tested (meaning base known t)
meaning base known (complement t) = outside (events_of (base Universe)) (meaning base known t)
meaning base known (ended k p t) = postfixed (events_of (base Universe)) p (meaning base known t)
meaning base known (joined k i l r) = infixed i (meaning base known l) (meaning base known r)
