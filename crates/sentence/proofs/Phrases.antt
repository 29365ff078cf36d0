-- How the parts of statements join, each against the machine. Assumes nothing.
use Rattle.std.proofs.Common.{◌≡◌, ℕ, ◌+◌, ◌<◌, ◌≤◌, Bool, true, false, List, [], ◌∷◌, ◌++◌, length, drop, Some, None, Ok, Err, Result, sym, refl, ap, ◌∙◌, subst, arith, drop-cons}
use Rattle.sentence.specs.declared.sort.Sort.{Sort}
use Rattle.sentence.specs.declared.sort.Sort.TheVariants.{Name}
use Rattle.sentence.specs.declared.fault.SentenceFault.{SentenceFault}
use Rattle.sentence.specs.declared.fault.SentenceFault.TheVariants.{Memory, Place}
use Rattle.sentence.specs.declared.statement.Binding as binding
use Rattle.sentence.specs.declared.statement.Statement as statement
use Rattle.sentence.specs.declared.placed.Placed.{Placed}
use Rattle.sentence.specs.Trees.{name, Tree, Word, Mark, plain, binds, groups, checks, Sentence}
use Rattle.sentence.specs.Looks.{first_role, StandsAt, role_speech}
use Rattle.sentence.specs.Machine.{leaf, Speech, lets, recs, ands, flags, labels, equals, words, Role, starts, complements, speaks, fill, nothing, Binding, single, first, more, Owner, of_binding, of_check, State, ready, let_seen, name_due, equals_due, label_due, operand, after, also, onto, finish, grouped, labelling, marked, feed, accept, outcome}
use Rattle.sentence.specs.Parsing.{Led, Faulted, Halts}
use Rattle.sentence.specs.Statements.{trees_of, statement_of, statements_of, GoesOn, GetsStuck, Stated, GoesBound, Unbound, GoesMarked, Unmarked}
use Rattle.sentence.specs.Exprs.{tree_of}
use Rattle.sentence.proofs.Looked.{here, takes, takes_to}
use Rattle.sentence.proofs.Climbs.{no_sign}
use Rattle.sentence.proofs.Heard

-- some sort stands within the sorts
there : (ts : List Sort) (at : ℕ) → at < length ts → first_role (drop at ts) ≡ None → ⊥
there ts at h e = let z = ap first_role (drop-cons ts at Name h) in cc

module _ (ts : List Sort) where
  -- a binding's name, and its sign
  named : (at j : ℕ) → StandsAt ts at (starts (leaf name)) × (j ≡ at + 1) → (p : Sentence) (b : Binding) → outcome (name_due p b) at (drop at ts) ≡ outcome (equals_due p b) j (drop j ts)
  unfolding feed
  named at j e p b = takes_to (name_due p b) (equals_due p b) ts at (starts (leaf name)) j e refl

  equalled : (at k : ℕ) → StandsAt ts at (speaks equals) × (k ≡ at + 1) → (p : Sentence) (b : Binding) → outcome (equals_due p b) at (drop at ts) ≡ outcome (operand p (of_binding b) [] nothing) k (drop k ts)
  unfolding feed
  equalled at k e p b = takes_to (equals_due p b) (operand p (of_binding b) [] nothing) ts at (speaks equals) k e refl

  -- an expression behind what owns it
  whole : (at : ℕ) (t : Tree) (next : ℕ) → Led ts at 1 0 t next → (p : Sentence) (o : Owner) → outcome (operand p o [] nothing) at (drop at ts) ≡ outcome (after p o [] t) next (drop next ts)
  unfolding fill
  whole at t next h p o = h.leads p o [] nothing (omega arith)

  pub goes_bound : (at j k : ℕ) (t : Tree) (next : ℕ) → StandsAt ts at (starts (leaf name)) × (j ≡ at + 1) → StandsAt ts j (speaks equals) × (k ≡ j + 1) → Led ts k 1 0 t next → Halts ts 1 next → GoesBound ts at t next
  goes_bound at j k t next e f h stops =
      record {
        leads = λ p b. named at j e p b ∙ equalled j k f p b ∙ whole k t next h p (of_binding b);
        past = omega (arith, e.1, f.1, h.past);
        within = h.within;
        halts = stops;
      }

  pub unbound_name : (at : ℕ) (x : SentenceFault) → (¬ StandsAt ts at (starts (leaf name))) × (x ≡ Place at) → Unbound ts at x
  unfolding feed accept
  unbound_name at x e = subst (λ x. Unbound ts at x) (sym e.1) (λ p b. Heard.name_off ts at (name_due p b) (equals_due p b) refl (λ r. refl) e.0)

  pub unbound_equals : (at j : ℕ) (x : SentenceFault) → StandsAt ts at (starts (leaf name)) × (j ≡ at + 1) → (¬ StandsAt ts j (speaks equals)) × (x ≡ Place j) → Unbound ts at x
  unbound_equals at j x e f = subst (λ x. Unbound ts at x) (sym f.1) (λ p b. named at j e p b ∙ Heard.equals_off ts j p b f.0)

  pub unbound_tree : (at j k : ℕ) (x : SentenceFault) → StandsAt ts at (starts (leaf name)) × (j ≡ at + 1) → StandsAt ts j (speaks equals) × (k ≡ j + 1) → Faulted ts k 1 x → Unbound ts at x
  unbound_tree at j k Memory e f h = tt
  unbound_tree at j k (Place n) e f h = λ p b. named at j e p b ∙ equalled j k f p b ∙ h p (of_binding b) [] nothing (omega arith)

  -- one sort before what was stated
  pub step_stated : (c d : Sentence → State) (at : ℕ) (r : Role) → StandsAt ts at r → ((p : Sentence) → feed (c p) r ≡ Some (d p)) → (x : Result (Placed statement.Statement) SentenceFault) → Stated d ts (at + 1) x → Stated c ts at x
  step_stated c d at r e f (Ok x) h = record { leads = λ p. takes (c p) (d p) ts at r e (f p) ∙ h.leads p; past = omega (arith, h.past); within = h.within }
  step_stated c d at r e f (Err Memory) h = tt
  step_stated c d at r e f (Err (Place k)) h = λ p. takes (c p) (d p) ts at r e (f p) ∙ h p

  -- what follows `let`
  pub goes_let : (at : ℕ) (t : Tree) (next : ℕ) → ¬ StandsAt ts at (speaks recs) → GoesBound ts at t next → GoesOn (λ p. let_seen p) ts at (binds t) next
  goes_let at t next e h =
      record {
        leads = λ p. Heard.rec_off ts at p e ∙ h.leads p single ∙ Heard.leave_on ts next p (of_binding single) t (binds t) refl (no_sign ts next h.halts) h.halts.bare (λ k. refl) (λ k. refl);
        past = h.past;
        within = h.within;
      }

  pub stuck_let : (at : ℕ) (f : SentenceFault) → ¬ StandsAt ts at (speaks recs) → Unbound ts at f → GetsStuck (λ p. let_seen p) ts at f
  stuck_let at Memory e h = tt
  stuck_let at (Place k) e h = λ p. Heard.rec_off ts at p e ∙ h p single

  -- a group so far: whose its last expression is, and that it may end or go on there
  pub record Grouping (at : ℕ) (t : Tree) (us : List Tree) (next : ℕ) : Type 0 where
    pub owner : Owner
    pub last : Tree
    pub ends_so : finish owner last ≡ Some (groups t us)
    pub goes_so : grouped owner last ≡ Some (more t us)
    pub unlabelled : (p : Sentence) → labelling p owner last ≡ None
    pub leads : (p : Sentence) → outcome (name_due p first) at (drop at ts) ≡ outcome (after p owner [] last) next (drop next ts)
    pub past : at < next
    pub within : next ≤ length ts
    pub halts : Halts ts 1 next

  pub grouping_first : (at : ℕ) (t : Tree) (next : ℕ) → GoesBound ts at t next → Grouping at t [] next
  grouping_first at t next h =
      record { owner = of_binding first; last = t; ends_so = refl; goes_so = refl; unlabelled = λ p. refl; leads = λ p. h.leads p first; past = h.past; within = h.within; halts = h.halts }

  grouping_on : (at : ℕ) (t : Tree) (us : List Tree) (next : ℕ) → Grouping at t us next → StandsAt ts next (speaks ands) → (p : Sentence) →
      outcome (name_due p first) at (drop at ts) ≡ outcome (name_due p (more t us)) (next + 1) (drop (next + 1) ts)
  unfolding feed
  grouping_on at t us next h e p =
      h.leads p
      ∙ takes (after p h.owner [] h.last) (name_due p (more t us)) ts next (speaks ands) e (ap (λ x. onto x (λ b. Some (name_due p b))) h.goes_so)

  pub grouping_more : (at : ℕ) (t : Tree) (us vs : List Tree) (v : Tree) (next end : ℕ) → Grouping at t us next → StandsAt ts next (speaks ands) → GoesBound ts (next + 1) v end → vs ≡ us ++ (v ∷ []) → Grouping at t vs end
  grouping_more at t us vs v next end h e b same =
      subst (λ x. Grouping at t x end) (sym same)
      (record {
        owner = of_binding (more t us);
        last = v;
        ends_so = refl;
        goes_so = refl;
        unlabelled = λ p. refl;
        leads = λ p. grouping_on at t us next h e p ∙ b.leads p (more t us);
        past = omega (arith, h.past, b.past);
        within = b.within;
        halts = b.halts;
      })

  pub grouping_stuck : (at : ℕ) (t : Tree) (us : List Tree) (next : ℕ) (f : SentenceFault) → Grouping at t us next → StandsAt ts next (speaks ands) → Unbound ts (next + 1) f → GetsStuck (λ p. name_due p first) ts at f
  grouping_stuck at t us next Memory h e g = tt
  grouping_stuck at t us next (Place k) h e g = λ p. grouping_on at t us next h e p ∙ g p (more t us)

  pub grouping_done : (at : ℕ) (t : Tree) (us : List Tree) (next : ℕ) → Grouping at t us next → ¬ StandsAt ts next (speaks ands) → GoesOn (λ p. name_due p first) ts at (groups t us) next
  grouping_done at t us next h e =
      record {
        leads = λ p.
            h.leads p
            ∙ Heard.leave_on ts next p h.owner h.last (groups t us) h.ends_so (no_sign ts next h.halts) h.halts.bare (λ k. absurd (e k)) (λ k. h.unlabelled p);
        past = h.past;
        within = h.within;
      }

  -- a check's mark behind its expression
  pub mark_plain : (at : ℕ) (f : Bool) → f ≡ false → at ≤ length ts → Halts ts 1 at → ¬ StandsAt ts at (speaks labels) → GoesMarked ts at f plain at
  mark_plain at f off within stops e =
      subst (λ x. GoesMarked ts at x plain at) (sym off)
      (record {
        leads = λ p n w t. Heard.leave_on ts at p (of_check false n w) t (checks plain n w t) refl (no_sign ts at stops) stops.bare (λ k. refl) (λ k. absurd (e k));
        past = omega arith;
        within = within;
      })

  pub mark_flag : (at : ℕ) (f : Bool) → f ≡ true → Halts ts 1 at → ¬ StandsAt ts at (speaks labels) → Unmarked ts at f (Place at)
  mark_flag at f on stops e = subst (λ x. Unmarked ts at x (Place at)) (sym on) (λ p n w t. Heard.flag_off ts at p n w t (no_sign ts at stops) stops.bare e)

  labelled_on : (at : ℕ) (f : Bool) → StandsAt ts at (speaks labels) → (p : Sentence) (n : Bool) (w : Word) (t : Tree) → outcome (after p (of_check f n w) [] t) at (drop at ts) ≡ outcome (label_due p f n w t) (at + 1) (drop (at + 1) ts)
  unfolding feed
  labelled_on at f e p n w t = takes (after p (of_check f n w) [] t) (label_due p f n w t) ts at (speaks labels) e refl

  pub mark_label : (at : ℕ) (f : Bool) (m : Mark) (next : ℕ) → StandsAt ts at (speaks labels) → StandsAt ts (at + 1) (starts (leaf name)) × (next ≡ at + 1 + 1) → m ≡ marked f → GoesMarked ts at f m next
  unfolding feed
  mark_label at f m next e g same =
      subst (λ x. GoesMarked ts at f x next) (sym same)
      (record {
        leads = λ p n w t. labelled_on at f e p n w t ∙ takes_to (label_due p f n w t) (ready (also p (checks (marked f) n w t))) ts (at + 1) (starts (leaf name)) next g refl;
        past = omega (arith, g.1);
        within = omega (arith, g.1, here ts (at + 1) (starts (leaf name)) g.0);
      })

  pub mark_nameless : (at : ℕ) (f : Bool) (x : SentenceFault) → StandsAt ts at (speaks labels) → (¬ StandsAt ts (at + 1) (starts (leaf name))) × (x ≡ Place (at + 1)) → Unmarked ts at f x
  unfolding feed accept
  mark_nameless at f x e g =
      subst (λ x. Unmarked ts at f x) (sym g.1)
      (λ p n w t. labelled_on at f e p n w t ∙ Heard.name_off ts (at + 1) (label_due p f n w t) (ready (also p (checks (marked f) n w t))) refl (λ r. refl) g.0)

  -- a check behind its word
  pub claim_goes : (at : ℕ) (f n : Bool) (w : Word) (t : Tree) (next : ℕ) (m : Mark) (end : ℕ) → Led ts at 1 0 t next → GoesMarked ts next f m end → GoesOn (λ p. operand p (of_check f n w) [] nothing) ts at (checks m n w t) end
  claim_goes at f n w t next m end h g = record { leads = λ p. whole at t next h p (of_check f n w) ∙ g.leads p n w t; past = omega (arith, h.past, g.past); within = g.within }

  -- no statement begins
  pub ready_none : (at : ℕ) → at < length ts → ¬ StandsAt ts at complements → role_speech (first_role (drop at ts)) ≡ None → (p : Sentence) → outcome (ready p) at (drop at ts) ≡ Err at
  ready_none at h k e p = Heard.ready_off ts at p (there ts at h) k (λ x. clash lets x) (λ x. clash flags x) (λ w x. clash (words w) x)
    where
      clash : (s : Speech) → StandsAt ts at (speaks s) → ⊥
      clash s x = let y = ap role_speech x in cc

  pub ready_other : (at : ℕ) (s : Speech) → StandsAt ts at (speaks s) → ¬ (s ≡ lets) → ¬ (s ≡ flags) → ((w : Word) → ¬ (s ≡ words w)) → (p : Sentence) → outcome (ready p) at (drop at ts) ≡ Err at
  ready_other at s e l f w p = Heard.ready_off ts at p (λ x. let no : ⊥ = cc in no) (λ x. let no : ⊥ = cc in no) (λ x. l (same lets x)) (λ x. f (same flags x)) (λ v x. w v (same (words v) x))
    where
      same : (a : Speech) → StandsAt ts at (speaks a) → s ≡ a
      same a x = cc

-- one binding more, one statement more
pub trees_last : (bs : List binding.Binding) (b : binding.Binding) → trees_of (bs ++ (b ∷ [])) ≡ trees_of bs ++ (tree_of b.tree ∷ [])
trees_last [] b = refl
trees_last (a ∷ bs) b = ap (λ x. tree_of a.tree ∷ x) (trees_last bs b)

pub statements_last : (ss : List statement.Statement) (s : statement.Statement) → statements_of (ss ++ (s ∷ [])) ≡ statements_of ss ++ (statement_of s ∷ [])
statements_last [] s = refl
statements_last (a ∷ ss) s = ap (λ x. statement_of a ∷ x) (statements_last ss s)
