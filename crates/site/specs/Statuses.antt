-- A site of the program as the model has it.
use Rattle.std.specs.Prelude.{List, [], is_some, Some, None, Option, slice_index_or}
use Rattle.lines.specs.Lists.{Lists}
use Rattle.lines.specs.declared.line.Line.{Ghosts as LineGhosts}
use Rattle.protocol.specs.Queues.{queues}
use Rattle.protocol.specs.Sites.{Site as Model}
use Rattle.protocol.specs.Turns.{Status}
use Rattle.site.specs.declared.site.Site.{Site}
use Rattle.stations.specs.Shows.{blank, shows}
use Rattle.stations.specs.declared.station.Station.{Station}

-- stations, and what the messages that wait say
abbrev pub site_of : Lists → List Station → Model
site_of W stations = record { station = λ k. shows (slice_index_or stations k blank); waits = queues W }

-- before the start every station is blank
abbrev pub stations_of : Option (List Station) → List Station
stations_of None = []
stations_of (Some stations) = stations

abbrev pub site_in : {R L : Type 0} → LineGhosts L → Site R L → Model
site_in lines s = site_of (lines.waits s.line) (stations_of s.stations)

abbrev pub status : {R L : Type 0} → LineGhosts L → Site R L → Status
status lines s = record { is_open = is_some s.stations; site = site_in lines s }
