-- A station as the model has it.
use Rattle.std.specs.Prelude.{ℕ, Bool, List, [], None, Option, slice_index_or}
use Rattle.events.specs.Marks.{marks}
use Rattle.events.specs.Members.{member}
use Rattle.protocol.specs.Station.{Request, Station as Model, asking, resting}
use Rattle.stations.specs.declared.station.Lock.{Lock}
use Rattle.stations.specs.declared.station.State.{State}
use Rattle.stations.specs.declared.station.State.TheVariants.{Asking, Resting}
use Rattle.stations.specs.declared.station.Station.{Station}

abbrev pub unlocked : Lock
unlocked = record { holder = None; waiting = record { bits = 0 } }

abbrev pub request : State → Request
request Resting = resting
request (Asking e had seen) = asking e (member had.bits) (marks seen)

abbrev pub holders : List Lock → ℕ → Option ℕ
holders locks f = (slice_index_or locks f unlocked).holder

abbrev pub waiters : List Lock → ℕ → ℕ → Bool
waiters locks f w = member (slice_index_or locks f unlocked).waiting.bits w

abbrev pub shows : Station → Model
shows s = record { marks = marks s.marking; request = request s.state; holder = holders s.locks; waiting = waiters s.locks }

-- a station with nothing in it
abbrev pub blank : Station
blank =
    record {
      marking = record { executed = record { bits = 0 }; pending = record { bits = 0 }; included = record { bits = 0 } };
      state = Resting;
      locks = [];
    }
