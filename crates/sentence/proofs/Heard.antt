-- What the machine makes of sorts that it cannot take, or that end a statement. Assumes nothing.
use Rattle.std.proofs.Common.{◌≡◌, ℕ, suc, Bool, true, false, List, [], drop, Some, None, Err, Option, refl, ap, ◌∙◌}
use Rattle.sentence.specs.declared.sort.Sort.{Sort}
use Rattle.sentence.specs.Trees.{name, Tree, Word, Statement, Sentence}
use Rattle.sentence.specs.Looks.{first_role, StandsAt, role_word, sign_at, post_at}
use Rattle.sentence.specs.Machine.{leaf, joins, ends, titles, lets, recs, ands, flags, labels, equals, words, Role, starts, goes, complements, speaks, Binding, single, Owner, of_check, State, begun, ready, let_seen, name_due, equals_due, flag_seen, tilde_seen, after, also, blank, onto, finish, grouped, labelling, on_name, from_ready, feed, accept, told_end, told_on, outcome}
use Rattle.sentence.proofs.Looking.{behind_first}
use Rattle.sentence.proofs.Looked.{look, looks, alike, Stops, stops}

module _ (ts : List Sort) (at : ℕ) where
  -- a name is due
  pub name_off : (c d : State) → accept c ≡ None → ((r : Role) → feed c r ≡ on_name r d) → ¬ StandsAt ts at (starts (leaf name)) → outcome c at (drop at ts) ≡ Err at
  name_off c d k h e = looks c at (drop at ts) ∙ go (first_role (drop at ts)) e
    where
      go : (r : Option Role) → (r ≡ Some (starts (leaf name)) → ⊥) → look c at (drop at ts) r ≡ Err at
      go None e = ap (λ a. told_end a at) k
      go (Some (starts (leaf name))) e = absurd (e refl)
      go (Some r) e = ap (λ f. told_on f at (λ d. outcome d (suc at) (behind_first (drop at ts)))) (h r)

  -- the sign `=` is due
  pub equals_off : (p : Sentence) (b : Binding) → ¬ StandsAt ts at (speaks equals) → outcome (equals_due p b) at (drop at ts) ≡ Err at
  unfolding feed accept
  equals_off p b e = looks (equals_due p b) at (drop at ts) ∙ go (first_role (drop at ts)) e
    where
      go : (r : Option Role) → (r ≡ Some (speaks equals) → ⊥) → look (equals_due p b) at (drop at ts) r ≡ Err at
      go (Some (speaks equals)) e = absurd (e refl)
      go r e = refl

  -- the word of a check is due
  pub denial_off : (p : Sentence) (f : Bool) → role_word (first_role (drop at ts)) ≡ None → outcome (tilde_seen p f) at (drop at ts) ≡ Err at
  unfolding feed accept
  denial_off p f e = looks (tilde_seen p f) at (drop at ts) ∙ go (first_role (drop at ts)) e
    where
      go : (r : Option Role) → role_word r ≡ None → look (tilde_seen p f) at (drop at ts) r ≡ Err at
      go (Some (speaks (words w))) e = cc
      go r e = refl

  pub warning_off : (p : Sentence) → ¬ StandsAt ts at complements → role_word (first_role (drop at ts)) ≡ None → outcome (flag_seen p) at (drop at ts) ≡ Err at
  unfolding feed accept
  warning_off p k e = looks (flag_seen p) at (drop at ts) ∙ go (first_role (drop at ts)) k e
    where
      go : (r : Option Role) → (r ≡ Some complements → ⊥) → role_word r ≡ None → look (flag_seen p) at (drop at ts) r ≡ Err at
      go (Some complements) k e = absurd (k refl)
      go (Some (speaks (words w))) k e = cc
      go r k e = refl

  -- no statement begins
  pub ready_off : (p : Sentence) → ¬ (first_role (drop at ts) ≡ None) → ¬ StandsAt ts at complements → ¬ StandsAt ts at (speaks lets) → ¬ StandsAt ts at (speaks flags) → ((w : Word) → ¬ StandsAt ts at (speaks (words w))) → outcome (ready p) at (drop at ts) ≡ Err at
  unfolding feed accept
  ready_off p n k l f w = looks (ready p) at (drop at ts) ∙ go (first_role (drop at ts)) n k l f w
    where
      go : (r : Option Role) → (r ≡ None → ⊥) → (r ≡ Some complements → ⊥) → (r ≡ Some (speaks lets) → ⊥) → (r ≡ Some (speaks flags) → ⊥) → ((w : Word) → r ≡ Some (speaks (words w)) → ⊥) → look (ready p) at (drop at ts) r ≡ Err at
      go None n k l f w = absurd (n refl)
      go (Some complements) n k l f w = absurd (k refl)
      go (Some (speaks lets)) n k l f w = absurd (l refl)
      go (Some (speaks flags)) n k l f w = absurd (f refl)
      go (Some (speaks (words v))) n k l f w = absurd (w v refl)
      go r n k l f w = refl

  -- behind `let`
  pub rec_off : (p : Sentence) → ¬ StandsAt ts at (speaks recs) → outcome (let_seen p) at (drop at ts) ≡ outcome (name_due p single) at (drop at ts)
  unfolding feed accept
  rec_off p e = alike (let_seen p) (name_due p single) at (drop at ts) (go (first_role (drop at ts)) e)
    where
      go : (r : Option Role) → (r ≡ Some (speaks recs) → ⊥) → look (let_seen p) at (drop at ts) r ≡ look (name_due p single) at (drop at ts) r
      go (Some (speaks recs)) e = absurd (e refl)
      go r e = refl

  -- a statement ends with its expression
  pub leave_on : (p : Sentence) (o : Owner) (t : Tree) (s : Statement) → finish o t ≡ Some s → sign_at ts at ≡ None → post_at ts at ≡ None → (StandsAt ts at (speaks ands) → grouped o t ≡ None) →
      (StandsAt ts at (speaks labels) → labelling p o t ≡ None) → outcome (after p o [] t) at (drop at ts) ≡ outcome (ready (also p s)) at (drop at ts)
  unfolding feed accept
  leave_on p o t s h f g a l = alike (after p o [] t) (ready (also p s)) at (drop at ts) (go (first_role (drop at ts)) (stops ts at f g) a l)
    where
      leaves : (r : Role) → told_on (onto (finish o t) (λ s. from_ready (also p s) r)) at (λ d. outcome d (suc at) (behind_first (drop at ts))) ≡ look (ready (also p s)) at (drop at ts) (Some r)
      leaves r = ap (λ x. told_on (onto x (λ s. from_ready (also p s) r)) at (λ d. outcome d (suc at) (behind_first (drop at ts)))) h

      go : (r : Option Role) → Stops r → (r ≡ Some (speaks ands) → grouped o t ≡ None) → (r ≡ Some (speaks labels) → labelling p o t ≡ None) → look (after p o [] t) at (drop at ts) r ≡ look (ready (also p s)) at (drop at ts) r
      go None q a l = ap (λ x. told_end (onto x (λ s. Some (also p s))) at) h
      go (Some (goes (joins i))) q a l = absurd q
      go (Some (goes (ends x))) q a l = absurd q
      go (Some complements) q a l = leaves complements
      go (Some (speaks lets)) q a l = leaves (speaks lets)
      go (Some (speaks flags)) q a l = leaves (speaks flags)
      go (Some (speaks (words w))) q a l = leaves (speaks (words w))
      go (Some (speaks ands)) q a l = ap (λ x. told_on (onto x (λ b. Some (name_due p b))) at (λ d. outcome d (suc at) (behind_first (drop at ts)))) (a refl)
      go (Some (speaks labels)) q a l = ap (λ x. told_on x at (λ d. outcome d (suc at) (behind_first (drop at ts)))) (l refl)
      go r q a l = refl

  -- a flag without its label
  pub flag_off : (p : Sentence) (n : Bool) (w : Word) (t : Tree) → sign_at ts at ≡ None → post_at ts at ≡ None → ¬ StandsAt ts at (speaks labels) → outcome (after p (of_check true n w) [] t) at (drop at ts) ≡ Err at
  unfolding feed accept
  flag_off p n w t f g e = looks (after p (of_check true n w) [] t) at (drop at ts) ∙ go (first_role (drop at ts)) (stops ts at f g) e
    where
      go : (r : Option Role) → Stops r → (r ≡ Some (speaks labels) → ⊥) → look (after p (of_check true n w) [] t) at (drop at ts) r ≡ Err at
      go (Some (goes (joins i))) q e = absurd q
      go (Some (goes (ends x))) q e = absurd q
      go (Some (speaks labels)) q e = absurd (e refl)
      go r q e = refl

  -- a text begins without a title
  pub title_off : ¬ StandsAt ts at (speaks titles) → outcome begun at (drop at ts) ≡ outcome (ready (blank false)) at (drop at ts)
  unfolding feed accept
  title_off e = alike begun (ready (blank false)) at (drop at ts) (go (first_role (drop at ts)) e)
    where
      go : (r : Option Role) → (r ≡ Some (speaks titles) → ⊥) → look begun at (drop at ts) r ≡ look (ready (blank false)) at (drop at ts) r
      go (Some (speaks titles)) e = absurd (e refl)
      go r e = refl
