-- Without room nothing is posted.
use Rattle.stations.specs.Paths.{still}
use Rattle.stations.proofs.outbox.Outbox.send.Goals as goal

pub returns-then-not-has_room-clause-beside : goal.returns-then-not-has_room-clause-beside
returns-then-not-has_room-clause-beside g c = still
