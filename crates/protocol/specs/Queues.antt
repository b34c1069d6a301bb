-- The notes that wait between stations.
use Rattle.std.specs.Prelude.{ℕ, Bool, true, ◌&&◌, List, [], ◌∷◌, ◌++◌, map, length, Some, Option, nat_lt}
use Rattle.lines.specs.Lists.{Lists}
use Rattle.lines.specs.Messages.{reads}
use Rattle.lines.specs.declared.note.Note.{Note}
use Rattle.protocol.specs.Station.{put_pair}
use Rattle.protocol.specs.declared.delivery.Post.{Post}

-- the notes that wait from the first station to the second, oldest first; a message that says nothing is no note
abbrev pub Queues : Type 0
Queues = ℕ → ℕ → List (Option Note)

-- what the messages of a line say
abbrev pub queues : Lists → Queues
queues W a b = map reads (W a b)

-- a post of the station b
abbrev pub post : Queues → ℕ → Post → Queues
post Q b p = put_pair Q b p.to (Q b p.to ++ (Some p.note ∷ []))

-- its posts, in order
unfoldable pub post_all : Queues → ℕ → List Post → Queues
post_all Q b [] = Q
post_all Q b (p ∷ ps) = post_all (post Q b p) b ps

-- whether each of them finds its list below the limit
unfoldable pub room_for : ℕ → Queues → ℕ → List Post → Bool
room_for limit Q b [] = true
room_for limit Q b (p ∷ ps) = nat_lt (length (Q b p.to)) limit && room_for limit (post Q b p) b ps
