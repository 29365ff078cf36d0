-- The kinds of events by their numbers. Assumes nothing.
use Rattle.std.specs.Prelude.{ℕ, Bool, ◌==◌}
use Rattle.run.specs.declared.event.Event.{Event}
use Rattle.run.specs.declared.event.Kind.{Kind}
use Rattle.run.specs.declared.event.Kind.TheVariants.{Read, Write, Fence, Branch, Initial}

-- each kind has its number
abbrev pub kind_number : Kind → ℕ
kind_number Read = 0
kind_number Write = 1
kind_number Fence = 2
kind_number Branch = 3
kind_number Initial = 4

-- the event is of the kind
abbrev pub is : Kind → Event → Bool
is kind e = e.kind == kind_number kind
