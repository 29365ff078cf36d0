-- From every state of the machine some sorts lead to acceptance, so that a state reached begins a text. Assumes nothing.
use Rattle.std.proofs.Common.{◌≡◌, true, false, List, [], ◌∷◌, ◌++◌, Some, refl, ◌∙◌}
use Rattle.sentence.specs.declared.sort.Sort.{Sort}
use Rattle.sentence.specs.declared.sort.Sort.TheVariants.{Name, Equals, As, Empty}
use Rattle.sentence.specs.Trees.{name, empty, close_sort, closure, Tree, atom, inside, binds, groups, checks, plain, Sentence}
use Rattle.sentence.specs.Machine.{fill, suffix, Wait, nothing, Frame, Binding, single, first, more, Owner, of_binding, of_check, State, begun, ready, let_seen, name_due, equals_due, flag_seen, tilde_seen, label_due, operand, after, starred, also, blank, marked, feed, accept, reads}
use Rattle.sentence.proofs.Expressions.{Still, starred_still, still_close, read_close}

-- some sorts lead to acceptance
pub record Alive (c : State) : Type 0 where
  pub more : List Sort
  pub sentence : Sentence
  pub reads_so : reads c more ≡ Some sentence

-- behind a whole expression, some that begin no atom
record Ends (p : Sentence) (o : Owner) (fs : List Frame) (t : Tree) : Type 0 where
  more : List Sort
  still : Still more
  sentence : Sentence
  reads_so : reads (after p o fs t) more ≡ Some sentence

ends_owner : (p : Sentence) (o : Owner) (t : Tree) → Ends p o [] t
unfolding reads accept feed
ends_owner p (of_binding single) t = record { more = []; still = tt; sentence = also p (binds t); reads_so = refl }
ends_owner p (of_binding first) t = record { more = []; still = tt; sentence = also p (groups t []); reads_so = refl }
ends_owner p (of_binding (more u us)) t = record { more = []; still = tt; sentence = also p (groups u (us ++ (t ∷ []))); reads_so = refl }
ends_owner p (of_check true n w) t = record { more = As ∷ (Name ∷ []); still = tt; sentence = also p (checks (marked true) n w t); reads_so = refl }
ends_owner p (of_check false n w) t = record { more = []; still = tt; sentence = also p (checks plain n w t); reads_so = refl }

-- the open brackets close one by one
ends : (fs : List Frame) (p : Sentence) (o : Owner) (t : Tree) → Ends p o fs t
ends [] p o t = ends_owner p o t
ends (f ∷ fs) p o t =
    let e = ends fs p o (fill f.waits (inside f.bracket t)) in
    record {
      more = close_sort f.bracket ∷ e.more;
      still = still_close f.bracket e.more;
      sentence = e.sentence;
      reads_so = read_close f.bracket p o fs f.waits t e.more ∙ e.reads_so;
    }

-- behind one sort more
alive_behind : (c : State) (s : Sort) (d : State) → ((ts : List Sort) → reads c (s ∷ ts) ≡ reads d ts) → Alive d → Alive c
alive_behind c s d e a = record { more = s ∷ a.more; sentence = a.sentence; reads_so = e a.more ∙ a.reads_so }

alive_after : (p : Sentence) (o : Owner) (fs : List Frame) (t : Tree) → Alive (after p o fs t)
alive_after p o fs t = let e = ends fs p o t in record { more = e.more; sentence = e.sentence; reads_so = e.reads_so }

alive_operand : (p : Sentence) (o : Owner) (fs : List Frame) (w : Wait) → Alive (operand p o fs w)
unfolding reads feed
alive_operand p o fs w = alive_behind (operand p o fs w) Name (after p o fs (fill w (atom name))) (λ ts. refl) (alive_after p o fs (fill w (atom name)))

alive_equals : (p : Sentence) (b : Binding) → Alive (equals_due p b)
unfolding reads feed
alive_equals p b = alive_behind (equals_due p b) Equals (operand p (of_binding b) [] nothing) (λ ts. refl) (alive_operand p (of_binding b) [] nothing)

-- every state is alive
pub alive : (c : State) → Alive c
unfolding reads accept feed
alive begun = record { more = []; sentence = blank false; reads_so = refl }
alive (ready p) = record { more = []; sentence = p; reads_so = refl }
alive (let_seen p) = alive_behind (let_seen p) Name (equals_due p single) (λ ts. refl) (alive_equals p single)
alive (name_due p b) = alive_behind (name_due p b) Name (equals_due p b) (λ ts. refl) (alive_equals p b)
alive (equals_due p b) = alive_equals p b
alive (flag_seen p) = alive_behind (flag_seen p) Empty (operand p (of_check true false empty) [] nothing) (λ ts. refl) (alive_operand p (of_check true false empty) [] nothing)
alive (tilde_seen p f) = alive_behind (tilde_seen p f) Empty (operand p (of_check f true empty) [] nothing) (λ ts. refl) (alive_operand p (of_check f true empty) [] nothing)
alive (label_due p f n w t) = record { more = Name ∷ []; sentence = also p (checks (marked f) n w t); reads_so = refl }
alive (operand p o fs w) = alive_operand p o fs w
alive (after p o fs t) = alive_after p o fs t
alive (starred p o fs t) =
    let e = ends fs p o (suffix t closure) in
    record { more = e.more; sentence = e.sentence; reads_so = starred_still p o fs t e.more e.still ∙ e.reads_so }
