-- Notes to the stations concerned.
use Rattle.std.specs.Prelude.{ℕ, Bool, List}
use Rattle.lines.specs.declared.note.Note.{Note}
use Rattle.protocol.specs.Station.{to_each}
use Rattle.protocol.specs.declared.delivery.Post.{Post}

-- a note to each of the stations 0 to 7 that passes the test, lowest first
unfoldable pub told : (ℕ → Bool) → Note → List Post
told p note = to_each p note 8
