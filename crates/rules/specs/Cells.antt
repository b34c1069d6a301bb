-- A set of events for each event.
use Rattle.std.specs.Prelude.{ℕ, Bool, List, slice_index_or}
use Rattle.events.specs.Members.{member}
use Rattle.events.specs.Sets.{EventSet}

abbrev pub none : EventSet
none = record { bits = 0 }

-- whether the set of a has b
abbrev pub cell : List EventSet → ℕ → ℕ → Bool
cell rows a b = member (slice_index_or rows a none).bits b
