-- Sets of events, and what is made of them. Assumes nothing.
use Rattle.std.specs.Prelude.{◌≡◌, ℕ, ◌⊎◌, ◌↔◌}

-- a set of events, which are numbers
abbrev pub Events : Type 1
Events = ℕ → Type 0

-- the events of either set
abbrev pub Either : Events → Events → Events
Either A B n = A n ⊎ B n

-- the events of both sets
abbrev pub Both : Events → Events → Events
Both A B n = A n × B n

-- the events of the first set that are not in the second
abbrev pub Without : Events → Events → Events
Without A B n = A n × (B n → ⊥)

-- the events of the universe that are not in the set
abbrev pub Outside : Events → Events → Events
Outside U A n = U n × (A n → ⊥)

-- the sets have the same events
abbrev pub SameEvents : Events → Events → Type 0
SameEvents A B = (n : ℕ) → A n ↔ B n

-- the set has no event
abbrev pub Vacant : Events → Type 0
Vacant A = (n : ℕ) → A n → ⊥

-- the event alone
abbrev pub Single : ℕ → Events
Single a n = n ≡ a

-- the set where the fact holds, else no event
abbrev pub Gated : Type 0 → Events → Events
Gated P A n = P × A n
