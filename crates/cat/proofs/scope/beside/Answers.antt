use Rattle.std.proofs.Common.{◌≡◌, option_map, ap, ◌∙◌, rules, tests, Bor}
use Rattle.std.specs.Str.{bytes_eq}
use Rattle.std.proofs.lemmas.Iterator.{YieldsList-from_slice}
use Rattle.std.proofs.lemmas.Iterator.Search.{find_from_yields_List}
use Rattle.cat.proofs.Meant.{Entry, found_beside}
use Rattle.cat.proofs.scope.beside.Goals as goal

pub returns : goal.returns
returns c =
    let given : c.map.result ≡ option_map (λ (e : Entry). e.1) (option_map (λ (y : Bor Entry). y.now) c.find.result) = search rules in
    given
    ∙ ap (option_map (λ (e : Entry). e.1))
    (find_from_yields_List (λ (e : Entry). bytes_eq c.args.name.now e.0.now) _ _ c.find.result c.find.ensures.ran (YieldsList-from_slice c.args.table.now (cc)) (λ x b q k. search (rules, tests)))
    ∙ found_beside c.args.name.now c.args.table.now
