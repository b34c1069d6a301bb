-- A step that was taken.
use Rattle.std.specs.Prelude.{◌≡◌, List, [], None, Ok, Err, Option, Result}
use Rattle.protocol.specs.Outcomes.{Delivery, astray}
use Rattle.protocol.specs.Station.{Step}
use Rattle.protocol.specs.declared.answer.Answer.{Answer}
use Rattle.protocol.specs.declared.delivery.Post.{Post}
use Rattle.protocol.specs.declared.delivery.StrayMessage.{StrayMessage}
use Rattle.stations.specs.Outgoing.{outgoing}
use Rattle.stations.specs.Shows.{shows}
use Rattle.stations.specs.declared.outbox.Outbox.{Outbox}
use Rattle.stations.specs.declared.station.Station.{Station}

-- the station is left as the step says, what came of the message is d, and ps is posted
pub record Leads (s : Station) (d : Delivery) (ps : List Post) (t : Step) : Type 0 where
  pub station : shows s ≡ t.station
  pub delivery : d ≡ t.delivery
  pub posts : ps ≡ t.posts

-- a step at a note: a stray one has no outbox, and posts nothing
abbrev pub Takes : Station → Result (Option Answer × Outbox) StrayMessage → Step → Type 0
Takes s (Ok (a, o)) t = Leads s (Ok a) (outgoing o) t
Takes s (Err e) t = Leads s astray [] t

-- the step that begins a request
abbrev pub Begins : Station → Result Outbox StrayMessage → Step → Type 0
Begins s (Ok o) t = Leads s (Ok None) (outgoing o) t
Begins s (Err e) t = Leads s astray [] t
