-- A site: its stations, and the notes that wait between them.
use Rattle.std.specs.Prelude.{ℕ, List, [], Option}
use Rattle.lines.specs.declared.note.Note.{Note}
use Rattle.rules.specs.Rule.{Meaning}
use Rattle.protocol.specs.Station.{Station, Step, fresh, put}
use Rattle.protocol.specs.Queues.{Queues, post_all}

pub record Site : Type 0 where
  pub station : ℕ → Station
  pub waits : ℕ → ℕ → List (Option Note)

-- the station b as its step leaves it, and its posts put into the queues
abbrev pub moved : Site → Queues → ℕ → Step → Site
moved S Q b t = record { station = put S.station b t.station; waits = post_all Q b t.posts }

-- every station at the start, and nothing waits
abbrev pub fresh_site : Meaning → Site
fresh_site R = record { station = fresh R; waits = λ _ _. [] }
