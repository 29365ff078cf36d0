-- One look at what comes first, and what the machine makes of it. Assumes nothing.
use Rattle.std.proofs.Common.{◌≡◌, ℕ, suc, ◌+◌, ◌<◌, ◌≤◌, Bool, true, false, ◌⊎◌, List, [], ◌∷◌, length, drop, Some, None, Err, Option, Result, sym, refl, ap, ◌∙◌, inl, inr, add-one}
use Rattle.std.proofs.lemmas.Bool.{cases_lt}
use Rattle.std.specs.Prelude.{is_some}
use Rattle.sentence.specs.declared.sort.Sort.{Sort}
use Rattle.sentence.specs.Trees.{Word, Bracket, round, square, Post, closure, Infix, product, Tree, inside, Sentence}
use Rattle.sentence.specs.Looks.{first_role, StandsAt, role_start, role_speech, role_word, role_sign, role_post, begins_atom, sign_at, post_at}
use Rattle.sentence.specs.Machine.{Start, closes, joins, ends, Speech, words, Role, starts, goes, complements, speaks, suffix, fill, Wait, behind, Frame, Owner, State, operand, after, starred, shut, feed, accept, told_end, told_on, outcome}
use Rattle.sentence.proofs.Looking.{first_none, behind_first, behind_drop}

-- what comes first stands within the sorts
pub here : (ts : List Sort) (at : ℕ) (r : Role) → StandsAt ts at r → at < length ts
here ts at r e = go (cases_lt at (length ts))
  where
    go : (at < length ts) ⊎ (length ts ≤ at) → at < length ts
    go (inl k) = k
    go (inr k) = let n = first_none ts at k in let no : ⊥ = cc in absurd no

-- what a look found
pub start_so : (r : Option Role) (s : Start) → role_start r ≡ Some s → r ≡ Some (starts s)
start_so (Some (starts x)) s e = cc
start_so r s e = cc

pub speech_so : (r : Option Role) (s : Speech) → role_speech r ≡ Some s → r ≡ Some (speaks s)
speech_so (Some (speaks x)) s e = cc
speech_so r s e = cc

pub word_so : (r : Option Role) (w : Word) → role_word r ≡ Some w → r ≡ Some (speaks (words w))
word_so (Some (speaks (words x))) w e = cc
word_so r w e = cc

post_so : (r : Option Role) (b : Bool) (q : Post) → role_post r b ≡ Some q → (x : Role) × (r ≡ Some x)
post_so None b q e = let no : ⊥ = cc in absurd no
post_so (Some x) b q e = (x, refl)

pub post_here : (ts : List Sort) (at : ℕ) (q : Post) → post_at ts at ≡ Some q → at < length ts
post_here ts at q e = let r = post_so (first_role (drop at ts)) (begins_atom (drop (at + 1) ts)) q e in here ts at r.0 r.1

-- what the machine makes of the first role
abbrev pub look : State → ℕ → List Sort → Option Role → Result Sentence ℕ
look c at rest None = told_end (accept c) at
look c at rest (Some r) = told_on (feed c r) at (λ d. outcome d (suc at) (behind_first rest))

pub looks : (c : State) (at : ℕ) (rest : List Sort) → outcome c at rest ≡ look c at rest (first_role rest)
unfolding outcome
looks c at [] = refl
looks c at (s ∷ rest) = refl

-- two states that make the same of it
pub alike : (c d : State) (at : ℕ) (rest : List Sort) → look c at rest (first_role rest) ≡ look d at rest (first_role rest) → outcome c at rest ≡ outcome d at rest
alike c d at rest e = looks c at rest ∙ e ∙ sym (looks d at rest)

-- a step over the first sort, said by places
pub stepped : (c d : State) (ts : List Sort) (at : ℕ) → outcome c at (drop at ts) ≡ outcome d (suc at) (behind_first (drop at ts)) → outcome c at (drop at ts) ≡ outcome d (at + 1) (drop (at + 1) ts)
stepped c d ts at e = e ∙ ap (outcome d (suc at)) (behind_drop at ts) ∙ ap (λ n. outcome d n (drop n ts)) (sym (add-one at))

-- a sort that is taken
pub takes : (c d : State) (ts : List Sort) (at : ℕ) (r : Role) → StandsAt ts at r → feed c r ≡ Some d → outcome c at (drop at ts) ≡ outcome d (at + 1) (drop (at + 1) ts)
takes c d ts at r e h =
    stepped c d ts at
    (looks c at (drop at ts) ∙ ap (look c at (drop at ts)) e ∙ ap (λ f. told_on f at (λ d. outcome d (suc at) (behind_first (drop at ts)))) h)

-- the same, where it is said what the place behind is
pub takes_to : (c d : State) (ts : List Sort) (at : ℕ) (r : Role) (k : ℕ) → StandsAt ts at r × (k ≡ at + 1) → feed c r ≡ Some d → outcome c at (drop at ts) ≡ outcome d k (drop k ts)
takes_to c d ts at r k e h = takes c d ts at r e.0 h ∙ ap (λ n. outcome d n (drop n ts)) (sym e.1)

-- what begins behind the first sort
next_atom : (ts : List Sort) (at : ℕ) → begins_atom (behind_first (drop at ts)) ≡ begins_atom (drop (at + 1) ts)
next_atom ts at = ap begins_atom (behind_drop at ts ∙ ap (λ n. drop n ts) (sym (add-one at)))

-- no sign goes on
abbrev pub Stops : Option Role → Type 0
Stops (Some (goes (joins i))) = ⊥
Stops (Some (goes (ends q))) = ⊥
Stops r = Unit {0}

stops_role : (r : Option Role) (b : Bool) → role_sign r b ≡ None → role_post r b ≡ None → Stops r
stops_role (Some (goes (joins product))) true f g = cc
stops_role (Some (goes (joins product))) false f g = cc
stops_role (Some (goes (joins i))) b f g = cc
stops_role (Some (goes (ends q))) b f g = cc
stops_role r b f g = tt

pub stops : (ts : List Sort) (at : ℕ) → sign_at ts at ≡ None → post_at ts at ≡ None → Stops (first_role (drop at ts))
stops ts at f g = stops_role (first_role (drop at ts)) (begins_atom (drop (at + 1) ts)) f g

module _ (p : Sentence) (o : Owner) (fs : List Frame) where
  -- no atom begins there
  pub starts_not : (w : Wait) (ts : List Sort) (at : ℕ) → role_start (first_role (drop at ts)) ≡ None → ¬ StandsAt ts at complements → outcome (operand p o fs w) at (drop at ts) ≡ Err at
  unfolding feed accept
  starts_not w ts at e h = looks (operand p o fs w) at (drop at ts) ∙ go (first_role (drop at ts)) e h
    where
      go : (r : Option Role) → role_start r ≡ None → (r ≡ Some complements → ⊥) → look (operand p o fs w) at (drop at ts) r ≡ Err at
      go (Some (starts x)) e h = cc
      go (Some complements) e h = absurd (h refl)
      go r e h = refl

  -- behind a star: an atom or none
  star_on : (t : Tree) (at : ℕ) (rest : List Sort) → begins_atom rest ≡ true → outcome (starred p o fs t) at rest ≡ outcome (operand p o fs (behind t product)) at rest
  unfolding feed accept
  star_on t at rest e = alike (starred p o fs t) (operand p o fs (behind t product)) at rest (go (first_role rest) e)
    where
      go : (r : Option Role) → is_some (role_start r) ≡ true → look (starred p o fs t) at rest r ≡ look (operand p o fs (behind t product)) at rest r
      go (Some (starts x)) e = refl
      go r e = cc

  star_off : (t : Tree) (at : ℕ) (rest : List Sort) → begins_atom rest ≡ false → outcome (starred p o fs t) at rest ≡ outcome (after p o fs (suffix t closure)) at rest
  unfolding feed accept
  star_off t at rest e = alike (starred p o fs t) (after p o fs (suffix t closure)) at rest (go (first_role rest) e)
    where
      go : (r : Option Role) → is_some (role_start r) ≡ false → look (starred p o fs t) at rest r ≡ look (after p o fs (suffix t closure)) at rest r
      go (Some (starts x)) e = cc
      go r e = refl

  -- an infix sign comes
  pub sign_on : (t : Tree) (ts : List Sort) (at : ℕ) (i : Infix) → sign_at ts at ≡ Some i → outcome (after p o fs t) at (drop at ts) ≡ outcome (operand p o fs (behind t i)) (at + 1) (drop (at + 1) ts)
  unfolding feed accept
  sign_on t ts at i e = stepped (after p o fs t) (operand p o fs (behind t i)) ts at (looks (after p o fs t) at (drop at ts) ∙ go (first_role (drop at ts)) (begins_atom (drop (at + 1) ts)) (next_atom ts at) e)
    where
      to : Infix → Result Sentence ℕ
      to j = outcome (operand p o fs (behind t j)) (suc at) (behind_first (drop at ts))

      go : (r : Option Role) (b : Bool) → begins_atom (behind_first (drop at ts)) ≡ b → role_sign r b ≡ Some i → look (after p o fs t) at (drop at ts) r ≡ to i
      go (Some (goes (joins product))) true f e = let same : product ≡ i = cc in star_on t (suc at) (behind_first (drop at ts)) f ∙ ap to same
      go (Some (goes (joins product))) false f e = cc
      go (Some (goes (joins j))) b f e = let same : j ≡ i = cc in ap to same
      go r b f e = cc

  -- a sign behind an operand comes
  pub post_on : (t : Tree) (ts : List Sort) (at : ℕ) (q : Post) → post_at ts at ≡ Some q → outcome (after p o fs t) at (drop at ts) ≡ outcome (after p o fs (suffix t q)) (at + 1) (drop (at + 1) ts)
  unfolding feed accept
  post_on t ts at q e = stepped (after p o fs t) (after p o fs (suffix t q)) ts at (looks (after p o fs t) at (drop at ts) ∙ go (first_role (drop at ts)) (begins_atom (drop (at + 1) ts)) (next_atom ts at) e)
    where
      to : Post → Result Sentence ℕ
      to s = outcome (after p o fs (suffix t s)) (suc at) (behind_first (drop at ts))

      go : (r : Option Role) (b : Bool) → begins_atom (behind_first (drop at ts)) ≡ b → role_post r b ≡ Some q → look (after p o fs t) at (drop at ts) r ≡ to q
      go (Some (goes (joins product))) true f e = cc
      go (Some (goes (joins product))) false f e = let same : closure ≡ q = cc in star_off t (suc at) (behind_first (drop at ts)) f ∙ ap to same
      go (Some (goes (ends s))) b f e = let same : s ≡ q = cc in ap to same
      go r b f e = cc

  -- a bracket closes
  pub shuts : (t : Tree) (w : Wait) (b : Bracket) → feed (after p o (record { bracket = b; waits = w } ∷ fs) t) (goes (closes b)) ≡ Some (after p o fs (fill w (inside b t)))
  unfolding feed
  shuts t w round = refl
  shuts t w square = refl

  -- nothing goes on, and the bracket does not close
  pub closes_not : (t : Tree) (w : Wait) (ts : List Sort) (at : ℕ) (b : Bracket) → ¬ StandsAt ts at (goes (closes b)) → sign_at ts at ≡ None → post_at ts at ≡ None →
      outcome (after p o (record { bracket = b; waits = w } ∷ fs) t) at (drop at ts) ≡ Err at
  unfolding feed accept
  closes_not t w ts at b h f g = looks (after p o (record { bracket = b; waits = w } ∷ fs) t) at (drop at ts) ∙ go (first_role (drop at ts)) (stops ts at f g) h
    where
      shut_not : (b c : Bracket) → (c ≡ b → ⊥) → told_on (shut p o fs t w b c) at (λ d. outcome d (suc at) (behind_first (drop at ts))) ≡ Err at
      shut_not round round h = absurd (h refl)
      shut_not square square h = absurd (h refl)
      shut_not b c h = refl

      go : (r : Option Role) → Stops r → (r ≡ Some (goes (closes b)) → ⊥) → look (after p o (record { bracket = b; waits = w } ∷ fs) t) at (drop at ts) r ≡ Err at
      go (Some (goes (closes c))) q h = shut_not b c (λ e. h (ap (λ x. Some (goes (closes x))) e))
      go (Some (goes (joins i))) q h = absurd q
      go (Some (goes (ends s))) q h = absurd q
      go r q h = refl
