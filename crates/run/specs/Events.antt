-- Events by their kind, and the range of each field. Assumes nothing.
use Rattle.std.specs.Prelude.{◌≡◌, ◌≤◌, ◌⊎◌}
use Rattle.run.specs.declared.event.Event.{Event}

-- kind 0 is a read
abbrev pub Read : Event → Type 0
Read e = e.kind ≡ 0

-- kind 4 is an initial write
abbrev pub Initial : Event → Type 0
Initial e = e.kind ≡ 4

-- kinds 1 and 4 are the writes
abbrev pub Write : Event → Type 0
Write e = (e.kind ≡ 1) ⊎ Initial e

-- reads and writes have a location
abbrev pub Memory : Event → Type 0
Memory e = Read e ⊎ Write e

-- fences and branches, kinds 2 and 3, have none
abbrev pub Placeless : Event → Type 0
Placeless e = (e.kind ≡ 2) ⊎ (e.kind ≡ 3)

-- a core's thread; initial writes have thread 0
abbrev pub Threaded : Event → Type 0
Threaded e = (1 ≤ e.thread) × (e.thread ≤ 8)

-- both at one location, as far as they have one
abbrev pub SamePlace : Event → Event → Type 0
SamePlace e f = e.location ≡ f.location

-- each field is in its range; a step is any byte, a value any 32 bits
pub record InRange (e : Event) : Type 0 where
  -- there are five kinds
  pub kinds : e.kind ≤ 4
  -- an initial write has thread 0 and step 0
  pub origin : Initial e → (e.thread ≡ 0) × (e.step ≡ 0)
  -- any other event has a thread from 1 to 8
  pub threads : (Initial e → ⊥) → Threaded e
  -- reads and writes have a location from 0 to 15
  pub located : Memory e → e.location ≤ 15
  -- fences and branches have location 0 and value 0
  pub placeless : Placeless e → (e.location ≡ 0) × (e.value ≡ 0)
