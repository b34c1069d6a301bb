-- What the loop over the own events keeps: those that are taken are freed, and their grants stand in the outbox.
use Rattle.events.specs.Marks.{marks}
use Rattle.stations.specs.Outgoing.{outgoing}
use Rattle.stations.specs.Shows.{shows}
use Rattle.stations.proofs.Freeing.{Turn}
use Rattle.stations.proofs.station.Station.release.Given as goal

abbrev pub invariant-loop-event : goal.invariant-loop-event
invariant-loop-event g l =
    Turn (g.R.Rule.meaning l.role.rule.now) l.from l.role.me (shows l.initial.self) (marks l.marking) l.event-iterator.rest.bits (shows l.self) (outgoing l.out)
