-- A fold over the events. Assumes nothing.
use Rattle.std.proofs.Common.{◌≡◌, ℕ, ◌+◌, ◌<◌, ◌≤◌, List, [], ◌∷◌, ◌++◌, length, get_or, sym, refl, ◌∙◌, subst, arith, length-append}
use Rattle.std.specs.Fn.{Mut, Called}
use Rattle.std.specs.List.{range_with_len}
use Rattle.std.specs.Iterator.{FoldsItems}
use Rattle.std.proofs.iter.Yields.{nat_range_steps}
use Rattle.std.proofs.lemmas.Iterator.{YieldsList-from_range}
use Rattle.std.proofs.lemmas.Fn.{fold_over}
use Rattle.std.proofs.lemmas.List.{get_or-append-add, get_or_append_left}
use Rattle.std.proofs.lemmas.List.FromFn.{get_or-range_with_len}
use Rattle.std.specs.declared.ops.Range.{Range}

module _ {F C : Type 0} (g : Mut F (C × (ℕ × Unit {0})) C) (P : ℕ → C → Type 0) (f : F) (stays : (n : ℕ) (a b : C) (f' : F) → Called g f (a, (n, tt)) b f' → f' ≡ f) (step : (n : ℕ) (a b : C) (f' : F) → n < 32 → P n a → Called g f (a, (n, tt)) b f' → P (n + 1) b) where
  -- the list has the first events in turn
  abbrev InTurn : List ℕ → Type 0
  InTurn ys = (length ys ≤ 32) × ((k : ℕ) → k < length ys → get_or ys k 0 ≡ k)

  -- after one more event
  turn : (ys : List ℕ) (a : C) (x : ℕ) (b : C) (f' : F) → (InTurn ys → P (length ys) a) → Called g f (a, (x, tt)) b f' → (InTurn (ys ++ (x ∷ [])) → P (length (ys ++ (x ∷ []))) b) × (f' ≡ f)
  turn ys a x b f' before k = (
    λ t.
        let long : length (ys ++ (x ∷ [])) ≡ length ys + 1 = length-append ys (x ∷ []) in
        let old : InTurn ys = (omega (arith, t.0), λ j l. sym (get_or_append_left ys (x ∷ []) 0 j l) ∙ t.1 j (omega arith)) in
        let at : x ≡ length ys = sym (get_or-append-add ys (x ∷ []) 0 0) ∙ t.1 (length ys + 0) (omega arith) ∙ omega arith in
        subst (λ n. P n b) (sym long) (step (length ys) a b f' (omega (arith, t.0)) (before old) (subst (λ n. Called g f (a, (n, tt)) b f') at k)),
    stays x a b f' k,
  )

  -- after every event
  pub fold_events : (s : Range ℕ) (a r : C) → s ≡ record { start = 0; end = 32 } → P 0 a → FoldsItems nat_range_steps g s f a r → P 32 r
  fold_events s a r e start ran =
      fold_over nat_range_steps (λ x. x) g (λ ys c. InTurn ys → P (length ys) c) f turn s (range_with_len 0 32) a r (YieldsList-from_range 0 32 32 e refl).runs (λ t. start) ran
      (omega arith, λ k l. omega (arith, get_or-range_with_len 0 32 k 0 l))
