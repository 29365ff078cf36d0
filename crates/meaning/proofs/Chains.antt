-- A chain through `filter_map` whose items are references, seen by what they refer to. Assumes nothing.
use Rattle.std.proofs.Common.{◌≡◌, true, false, List, [], ◌∷◌, length, Some, None, Option, is_some, sym, refl, ap, ◌∙◌, subst, true≢false, arith}
use denote.Param.Members.{Mut}
use Rattle.std.specs.declared.iter.FilterMap.{FilterMap}
use Rattle.std.specs.Fn.{Called}
use Rattle.std.specs.Iterator.{AlwaysYields, Yields}
use Rattle.std.specs.Iterator.Adapters.{filter_map_source, filter_map_callee, filter_map_steps}
use Rattle.std.specs.List.{FoldsTo, cons_option, filter_map}
use Rattle.std.specs.Option.{MatchOption, option_map}
use Rattle.std.proofs.lemmas.Iterator.{YieldsList}

abbrev head : {D : Type 0} → D → List D → D
head d [] = d
head d (y ∷ ys) = y

abbrev tail : {D : Type 0} → List D → List D
tail [] = []
tail (y ∷ ys) = ys

some_item : {D : Type 0} (y : D) (ys : List D) → y ∷ ys ≡ [] → ⊥
some_item y ys e = omega (arith, ap length e)

module _ {S A B C D F : Type 0} (steps : S → Option A → S → Type 0) (v : A → B) (g : Mut F (A × Unit {0}) (Option C)) (w : C → D) (h : B → Option D) (f : F)
    (k : (x : A) (r : Option C) (q : F) → Called g f (x, tt) r q → (q ≡ f) × (option_map w r ≡ h (v x))) where
  abbrev picked : List B → List D
  picked ys = filter_map h ys

  ended : (more : List B) (t u : S) → AlwaysYields steps v t more → steps t None u → more ≡ []
  ended [] t u e p = refl
  ended (y ∷ ys) t u e p = absurd (e.0 u p)

  went : (more : List B) (t u : S) (x : A) → AlwaysYields steps v t more → steps t (Some x) u → (ys : List B) × (more ≡ v x ∷ ys) × AlwaysYields steps v u ys
  went [] t u x e p = absurd (e x u p)
  went (y ∷ ys) t u x e p = (ys, ap (λ b. b ∷ ys) (sym (e.1 x u p).0), (e.1 x u p).1)

  -- what is passed over gives nothing
  passed : (xs : List A) (ys : List B) (s t : S) (p q : F) → p ≡ f → AlwaysYields steps v s ys → Yields steps s xs t → FoldsTo (λ p x q. Called g p (x, tt) None q) p xs q
      → (more : List B) × (q ≡ f) × (picked ys ≡ picked more) × AlwaysYields steps v t more
  passed [] ys s t p q a e y c = (ys, sym c ∙ a, refl, subst (λ z. AlwaysYields steps v z ys) y e)
  passed (x ∷ xs) [] s t p q a e y c = absurd (e x y.0 y.1)
  passed (x ∷ xs) (z ∷ ys) s t p q a e y c =
      let n = e.1 x y.0 y.1 in
      let d = k x None c.0 (subst (λ u. Called g u (x, tt) None c.0) a c.1) in
      let m = passed xs ys y.0 t c.0 q d.0 n.1 y.2 c.2 in
      (m.0, m.1, ap (λ b. picked (b ∷ ys)) (sym n.0) ∙ ap (λ o. cons_option o (picked ys)) (sym d.1) ∙ m.2, m.3)

  -- the source's item where the call gives one, and the end of the source where none comes
  came : (more : List B) (t u : S) (p q : F) (y : C) (o : Option A) → p ≡ f → AlwaysYields steps v t more → steps t o u → MatchOption o ((Some y ≡ None) × (q ≡ p)) (λ x. Called g p (x, tt) (Some y) q × (true ≡ true))
      → (zs : List B) × (q ≡ f) × (picked more ≡ w y ∷ picked zs) × AlwaysYields steps v u zs
  came more t u p q y None a e r c = absurd (true≢false (ap is_some c.0))
  came more t u p q y (Some x) a e r c =
      let n = went more t u x e r in
      let m = k x (Some y) q (subst (λ z. Called g z (x, tt) (Some y) q) a c.0) in
      (n.0, m.0, ap picked n.1 ∙ ap (λ o. cons_option o (picked n.0)) (sym m.1), n.2)

  stopped : (more : List B) (t u : S) (P : Type 0) (Q : A → Type 0) (o : Option A) → AlwaysYields steps v t more → steps t o u → MatchOption o P (λ x. Q x × (false ≡ true)) → more ≡ []
  stopped more t u P Q None e p c = ended more t u e p
  stopped more t u P Q (Some x) e p c = absurd (true≢false (sym c.1))

  up_to_pick : (ys : List B) (s j : FilterMap S F) (r : Option C) → filter_map_callee s ≡ f → AlwaysYields steps v (filter_map_source s) ys → (p : filter_map_steps steps g s r j)
      → (more : List B) × (p.2 ≡ f) × (picked ys ≡ picked more) × AlwaysYields steps v p.3.0 more
  up_to_pick ys s j r a e p = passed p.0 ys (filter_map_source s) p.3.0 (filter_map_callee s) p.2 a e p.3.1 p.4

  next_pick : (ys : List B) (s j : FilterMap S F) (y : C) → filter_map_callee s ≡ f → AlwaysYields steps v (filter_map_source s) ys → filter_map_steps steps g s (Some y) j
      → (zs : List B) × (filter_map_callee j ≡ f) × (picked ys ≡ w y ∷ picked zs) × AlwaysYields steps v (filter_map_source j) zs
  next_pick ys s j y a e p =
      let m = up_to_pick ys s j (Some y) a e p in
      let n = came m.0 p.3.0 (filter_map_source j) p.2 (filter_map_callee j) y p.1 m.1 m.3 p.3.2 p.5 in
      (n.0, n.1, m.2 ∙ n.2, n.3)

  picks : (zs : List D) (ys : List B) (s : FilterMap S F) → filter_map_callee s ≡ f → picked ys ≡ zs → AlwaysYields steps v (filter_map_source s) ys → AlwaysYields (filter_map_steps steps g) w s zs
  picks [] ys s a d e = λ y j p. let o = next_pick ys s j y a e p in some_item (w y) _ (sym o.2 ∙ d)
  picks (z ∷ zs) ys s a d e = (
    (λ j p. let m = up_to_pick ys s j None a e p in some_item z zs (sym d ∙ m.2 ∙ ap picked (stopped m.0 p.3.0 (filter_map_source j) _ _ p.1 m.3 p.3.2 p.5))),
    λ y j p. let o = next_pick ys s j y a e p in (ap (head z) (sym o.2 ∙ d), picks zs o.0 j o.1 (ap tail (sym o.2 ∙ d)) o.3),
  )

  pub picked_road : {s : FilterMap S F} (ys : List B) → YieldsList steps v (filter_map_source s) ys → filter_map_callee s ≡ f → YieldsList (filter_map_steps steps g) w s (filter_map h ys)
  picked_road {s} ys e a = record { runs = picks (filter_map h ys) ys s a refl e.runs }
