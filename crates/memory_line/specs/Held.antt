-- The messages that the pairs of a memory line hold.
use Rattle.std.specs.Prelude.{ℕ, List, [], slice_index_or}
use Rattle.arrayvec.specs.ArrayVec.{ArrayVec}
use Rattle.lines.specs.Lists.{Lists, placed}
use Rattle.lines.specs.declared.message.Message.{Message}

-- the messages of a pair, oldest first
abbrev pub held_at : List (ArrayVec Message) → ℕ → List Message
held_at pairs p = (slice_index_or pairs p record { items = [] }).items

-- what waits on a memory line with these pairs
abbrev pub waits_in : List (ArrayVec Message) → Lists
waits_in pairs = placed (held_at pairs)
