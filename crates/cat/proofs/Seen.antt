-- What is seen at a token. Assumes nothing.
use Rattle.std.proofs.Common.{◌≡◌, ℕ, ◌<◌, ◌≤◌, List, [], map, length, get_or, sym, ap, ◌∙◌}
use Rattle.std.proofs.lemmas.List.{drop_all, drop_more, drop-map}
use Rattle.token.specs.declared.token.Lexeme.{Lexeme}
use Rattle.token.specs.Views.{view, lexeme_view}
use Rattle.cat.specs.Scopes.{name_of, first_name, name_at}
use Rattle.cat.specs.Readings.{first_place, place_of}

-- behind the end no name stands
pub name_past : (ls : List Lexeme) (k : ℕ) → length ls ≤ k → [] ≡ name_at (map lexeme_view ls) k
name_past ls k h = sym (ap first_name (drop-map lexeme_view k ls ∙ ap (map lexeme_view) (drop_all k ls h)))

-- at a token the name is its own
pub name_here : (ls : List Lexeme) (k : ℕ) (d : Lexeme) → k < length ls → name_at (map lexeme_view ls) k ≡ name_of (view (get_or ls k d).token)
name_here ls k d h = ap first_name (drop-map lexeme_view k ls ∙ ap (map lexeme_view) (drop_more ls k d h))

-- the place of a token, and behind the last one
pub place_here : (text : List ℕ) (ls : List Lexeme) (k : ℕ) (d : Lexeme) → k < length ls → place_of text (map lexeme_view ls) k ≡ (get_or ls k d).place
place_here text ls k d h = ap (first_place text) (drop-map lexeme_view k ls ∙ ap (map lexeme_view) (drop_more ls k d h))

pub place_past : (text : List ℕ) (ls : List Lexeme) (k : ℕ) → length ls ≤ k → place_of text (map lexeme_view ls) k ≡ length text
place_past text ls k h = ap (first_place text) (drop-map lexeme_view k ls ∙ ap (map lexeme_view) (drop_all k ls h))
