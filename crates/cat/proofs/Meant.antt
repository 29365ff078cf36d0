-- What a name means. Assumes nothing.
use Rattle.std.proofs.Common.{◌≡◌, ℕ, Bool, true, false, cond, List, [], ◌∷◌, map, find, option_map, Some, refl, Bor}
use Rattle.std.specs.Str.{bytes_eq}
use Rattle.term.specs.declared.term.Given.{Given}
use Rattle.cat.specs.Scopes.{beside}

-- an entry of a table of names
abbrev pub Entry : Type 0
Entry = Bor (List ℕ) × Given

-- the first of a table's entries with a name is what stands beside it
pub found_beside : (n : List ℕ) (table : List Entry) → option_map (λ (e : Entry). e.1) (find (λ (e : Entry). bytes_eq n e.0.now) table) ≡ beside n (map (λ (e : Entry). (e.0.now, e.1)) table)
unfolding beside
found_beside n [] = refl
found_beside n (e ∷ more) = go (bytes_eq n e.0.now) (found_beside n more)
  where
    go : (b : Bool) → option_map (λ (e : Entry). e.1) (find (λ (e : Entry). bytes_eq n e.0.now) more) ≡ beside n (map (λ (e : Entry). (e.0.now, e.1)) more) →
        option_map (λ (e : Entry). e.1) (cond b (Some e) (find (λ (e : Entry). bytes_eq n e.0.now) more)) ≡ cond b (Some e.1) (beside n (map (λ (e : Entry). (e.0.now, e.1)) more))
    go true later = refl
    go false later = later
