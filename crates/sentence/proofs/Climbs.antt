-- How the parser's parts join, each against the machine. Assumes nothing.
use Rattle.std.proofs.Common.{◌≡◌, ℕ, ◌+◌, ◌<◌, ◌≤◌, Bool, true, false, cond, leb, List, ◌∷◌, drop, Some, None, Option, sym, refl, ap, ◌∙◌, subst, arith}
use Rattle.std.proofs.lemmas.Bool.{leb-true}
use Rattle.sentence.specs.declared.sort.Sort.{Sort}
use Rattle.sentence.specs.declared.fault.SentenceFault.{SentenceFault}
use Rattle.sentence.specs.declared.fault.SentenceFault.TheVariants.{Memory, Place}
use Rattle.sentence.specs.Trees.{Leaf, Bracket, Post, Infix, bar, product, Tree, atom, inside, tilde, ended, joined, rank, level, bound, Sentence}
use Rattle.sentence.specs.Looks.{first_role, StandsAt, role_start, sign_at, post_at, sign_above}
use Rattle.sentence.specs.Machine.{leaf, opens, closes, starts, goes, complements, fill, asked, Wait, nothing, behind, tilded, Frame, Owner, operand, after, feed, outcome}
use Rattle.sentence.specs.Parsing.{Led, StuckAt, Faulted, Halts, Unprefixed, Opened}
use Rattle.sentence.proofs.Inserts.{rank_most, insert_fill, suffix_fill, suffix_tight}
use Rattle.sentence.proofs.Looked.{here, post_here, takes, starts_not, sign_on, post_on, shuts, closes_not}

-- a leaf
pub led_leaf : (ts : List Sort) (at : ℕ) (l : Leaf) → StandsAt ts at (starts (leaf l)) → Led ts at 7 7 (atom l) (at + 1)
unfolding feed
led_leaf ts at l e =
    record {
      leads = λ p o fs w h. takes (operand p o fs w) (after p o fs (fill w (atom l))) ts at (starts (leaf l)) e refl;
      past = omega arith;
      within = omega (arith, here ts at (starts (leaf l)) e);
      tight = omega arith;
    }

-- nothing that begins an atom
pub stuck_start : (ts : List Sort) (at : ℕ) → role_start (first_role (drop at ts)) ≡ None → Unprefixed ts at → StuckAt ts at 7 at
stuck_start ts at e u = λ p o fs w h. starts_not p o fs w ts at e u

-- behind the prefix
prefix_on : (ts : List Sort) (at : ℕ) → StandsAt ts at complements → (p : Sentence) (o : Owner) (fs : List Frame) (w : Wait) →
    outcome (operand p o fs w) at (drop at ts) ≡ outcome (operand p o fs (tilded w)) (at + 1) (drop (at + 1) ts)
unfolding feed
prefix_on ts at e p o fs w = takes (operand p o fs w) (operand p o fs (tilded w)) ts at complements e refl

pub led_prefix : (ts : List Sort) (at : ℕ) (t u : Tree) (next : ℕ) → StandsAt ts at complements → Led ts (at + 1) 7 6 t next → u ≡ tilde t → Led ts at 7 6 u next
led_prefix ts at t u next e h same =
    subst (λ x. Led ts at 7 6 x next) (sym same)
    (record {
      leads = λ p o fs w k. prefix_on ts at e p o fs w ∙ h.leads p o fs (tilded w) (omega arith) ∙ ap (λ x. outcome (after p o fs x) next (drop next ts)) (unfold fill in refl);
      past = omega (arith, h.past);
      within = h.within;
      tight = omega arith;
    })

pub fault_prefix : (ts : List Sort) (at : ℕ) (f : SentenceFault) → StandsAt ts at complements → Faulted ts (at + 1) 7 f → Faulted ts at 7 f
fault_prefix ts at Memory e h = tt
fault_prefix ts at (Place k) e h = λ p o fs w j. prefix_on ts at e p o fs w ∙ h p o fs (tilded w) (omega arith)

-- between brackets
between_on : (ts : List Sort) (at : ℕ) (b : Bracket) → Opened ts at b → (p : Sentence) (o : Owner) (fs : List Frame) (w : Wait) →
    outcome (operand p o fs w) at (drop at ts) ≡ outcome (operand p o (record { bracket = b; waits = w } ∷ fs) nothing) (at + 1) (drop (at + 1) ts)
unfolding feed
between_on ts at b e p o fs w = takes (operand p o fs w) (operand p o (record { bracket = b; waits = w } ∷ fs) nothing) ts at (starts (opens b)) e refl

opened_leads : (ts : List Sort) (at : ℕ) (b : Bracket) (m : ℕ) (t : Tree) (next : ℕ) → Opened ts at b → Led ts (at + 1) 1 m t next → (p : Sentence) (o : Owner) (fs : List Frame) (w : Wait) →
    outcome (operand p o fs w) at (drop at ts) ≡ outcome (after p o (record { bracket = b; waits = w } ∷ fs) t) next (drop next ts)
opened_leads ts at b m t next e h p o fs w =
    between_on ts at b e p o fs w
    ∙ h.leads p o (record { bracket = b; waits = w } ∷ fs) nothing (omega arith)
    ∙ ap (λ x. outcome (after p o (record { bracket = b; waits = w } ∷ fs) x) next (drop next ts)) (unfold fill in refl)

pub led_between : (ts : List Sort) (at : ℕ) (b : Bracket) (m : ℕ) (t u : Tree) (next : ℕ) → Opened ts at b → Led ts (at + 1) 1 m t next → StandsAt ts next (goes (closes b)) → u ≡ inside b t →
    Led ts at 7 7 u (next + 1)
led_between ts at b m t u next e h c same =
    subst (λ x. Led ts at 7 7 x (next + 1)) (sym same)
    (record {
      leads = λ p o fs w k.
          opened_leads ts at b m t next e h p o fs w
          ∙ takes (after p o (record { bracket = b; waits = w } ∷ fs) t) (after p o fs (fill w (inside b t))) ts next (goes (closes b)) c (shuts p o fs t w b);
      past = omega (arith, h.past);
      within = omega (arith, here ts next (goes (closes b)) c);
      tight = omega arith;
    })

pub fault_between : (ts : List Sort) (at : ℕ) (b : Bracket) (f : SentenceFault) → Opened ts at b → Faulted ts (at + 1) 1 f → Faulted ts at 7 f
fault_between ts at b Memory e h = tt
fault_between ts at b (Place k) e h = λ p o fs w j. between_on ts at b e p o fs w ∙ h p o (record { bracket = b; waits = w } ∷ fs) nothing (omega arith)

-- no infix sign goes on at the lowest rung
pub no_sign : (ts : List Sort) (next : ℕ) → Halts ts 1 next → sign_at ts next ≡ None
no_sign ts next h = go (sign_at ts next) refl
  where
    least : (i : Infix) → 1 ≤ rank i
    least bar = omega arith
    least i = omega arith

    go : (s : Option Infix) → sign_at ts next ≡ s → s ≡ None
    go None e = refl
    go (Some i) e = absurd (omega (arith, h.loose i e, least i))

pub stuck_between : (ts : List Sort) (at : ℕ) (b : Bracket) (m : ℕ) (t : Tree) (next : ℕ) → Opened ts at b → Led ts (at + 1) 1 m t next → Halts ts 1 next → ¬ StandsAt ts next (goes (closes b)) → StuckAt ts at 7 next
stuck_between ts at b m t next e h stops c =
    λ p o fs w k. opened_leads ts at b m t next e h p o fs w ∙ closes_not p o fs t w ts next b c (no_sign ts next stops) stops.bare

-- a sign behind what was read
pub led_post : (ts : List Sort) (at : ℕ) (t u : Tree) (next : ℕ) (q : Post) → Led ts at 7 7 t next → post_at ts next ≡ Some q → u ≡ ended t q → Led ts at 7 7 u (next + 1)
led_post ts at t u next q h e same =
    subst (λ x. Led ts at 7 7 x (next + 1)) (sym same)
    (record {
      leads = λ p o fs w k.
          h.leads p o fs w k
          ∙ post_on p o fs (fill w t) ts next q e
          ∙ ap (λ x. outcome (after p o fs x) (next + 1) (drop (next + 1) ts)) (suffix_fill w t q ∙ ap (fill w) (suffix_tight t q h.tight));
      past = omega (arith, h.past);
      within = omega (arith, post_here ts next q e);
      tight = omega arith;
    })

-- an expression on the ladder: what follows it binds no tighter than it
pub record Climbing (ts : List Sort) (at n : ℕ) (t : Tree) (next : ℕ) : Type 0 where
  pub led : Led ts at n 0 t next
  pub meets : (i : Infix) → sign_at ts next ≡ Some i → rank i ≤ level t
  pub bare : post_at ts next ≡ None

-- an infix sign on the rung or above
above : (n : ℕ) (s : Option Infix) (i : Infix) → sign_above n s ≡ Some i → (s ≡ Some i) × (n ≤ rank i)
above n None i e = let no : ⊥ = cc in absurd no
above n (Some j) i e = go (leb n (rank j)) refl e
  where
    go : (b : Bool) → leb n (rank j) ≡ b → cond b (Some j) None ≡ Some i → (Some j ≡ Some i) × (n ≤ rank i)
    go true f e = let same : j ≡ i = cc in (ap Some same, subst (λ x. n ≤ rank x) same (leb-true n (rank j) f))
    go false f e = let no : ⊥ = cc in absurd no

infix_on : (ts : List Sort) (at n : ℕ) (t : Tree) (next : ℕ) (i : Infix) → Climbing ts at n t next → sign_above n (sign_at ts next) ≡ Some i → (p : Sentence) (o : Owner) (fs : List Frame) (w : Wait) → asked w ≤ n →
    outcome (operand p o fs w) at (drop at ts) ≡ outcome (operand p o fs (behind (fill w t) i)) (next + 1) (drop (next + 1) ts)
infix_on ts at n t next i h e p o fs w k =
    h.led.leads p o fs w k
    ∙ sign_on p o fs (fill w t) ts next i (above n (sign_at ts next) i e).0

-- what may follow a right operand binds no tighter than its sign
no_tighter : (i j : Infix) → rank j < bound i → rank j ≤ rank i
no_tighter product j h = rank_most j
no_tighter i j h = omega arith

-- an infix sign and its right operand
pub climbing_more : (ts : List Sort) (at n : ℕ) (t : Tree) (next : ℕ) (i : Infix) (b : ℕ) (r u : Tree) (end : ℕ) → Climbing ts at n t next → sign_above n (sign_at ts next) ≡ Some i → b ≡ bound i →
    Led ts (next + 1) b 0 r end → Halts ts b end → u ≡ joined i t r → Climbing ts at n u end
unfolding fill
climbing_more ts at n t next i b r u end h e is right stops same =
    subst (λ x. Climbing ts at n x end) (sym same)
    (record {
      led = record {
        leads = λ p o fs w k.
            infix_on ts at n t next i h e p o fs w k
            ∙ right.leads p o fs (behind (fill w t) i) (omega arith)
            ∙ ap (λ x. outcome (after p o fs x) end (drop end ts)) (whole w k);
        past = omega (arith, h.led.past, right.past);
        within = right.within;
        tight = omega arith;
      };
      meets = λ j f. no_tighter i j (omega (arith, is, stops.loose j f));
      bare = stops.bare;
    })
  where
    whole : (w : Wait) → asked w ≤ n → fill (behind (fill w t) i) r ≡ fill w (joined i t r)
    whole w k =
        let a = above n (sign_at ts next) i e in
        insert_fill w t i r (omega (arith, a.1)) (h.meets i a.0)

pub fault_right : (ts : List Sort) (at n : ℕ) (t : Tree) (next : ℕ) (i : Infix) (b : ℕ) (f : SentenceFault) → Climbing ts at n t next → sign_above n (sign_at ts next) ≡ Some i → b ≡ bound i → Faulted ts (next + 1) b f → Faulted ts at n f
fault_right ts at n t next i b Memory h e is g = tt
fault_right ts at n t next i b (Place k) h e is g = λ p o fs w j. infix_on ts at n t next i h e p o fs w j ∙ g p o fs (behind (fill w t) i) (omega arith)
