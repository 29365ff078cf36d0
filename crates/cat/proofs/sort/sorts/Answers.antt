use Rattle.std.proofs.Common.{◌≡◌, map, vec_items, sym, ◌∙◌, rules, tests}
use Rattle.std.proofs.lemmas.Iterator.{items_from_collect, YieldsList-from_map, YieldsList-from_slice}
use Rattle.std.proofs.lemmas.Result.{IfOk-weaker}
use Rattle.std.proofs.lemmas.Simd.{map-map}
use Rattle.token.specs.declared.token.Lexeme.{Lexeme}
use Rattle.token.specs.Views.{view, lexeme_view}
use Rattle.cat.specs.Sorts.{sort_of, sorts_of}
use Rattle.cat.proofs.sort.sorts.Goals as goal

pub returns : goal.returns
returns c =
    let ls = c.args.lexemes.now in
    let found = items_from_collect c.collect.result c.collect.ensures.ran (YieldsList-from_map _ (λ (l : Lexeme). sort_of (view l.token)) (YieldsList-from_slice ls (cc)) c.map.ensures.closure (λ x r q k. search (rules, tests))) in
    IfOk-weaker c.collect.result (λ v. vec_items v ≡ map (λ (l : Lexeme). sort_of (view l.token)) ls) (λ v. vec_items v ≡ sorts_of (map lexeme_view ls)) (λ v e. e ∙ sym (map-map (λ t. sort_of t.1) lexeme_view ls)) found
