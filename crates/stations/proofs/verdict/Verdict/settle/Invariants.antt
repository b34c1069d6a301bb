-- What the loop over the stations concerned keeps: what is posted, and then the settles to the rest, are all the settles.
use Rattle.std.proofs.Common.{◌≡◌, ◌++◌}
use Rattle.events.specs.Members.{member}
use Rattle.stations.specs.Outgoing.{outgoing}
use Rattle.stations.specs.Telling.{told}
use Rattle.stations.proofs.verdict.Verdict.settle.Given as goal

abbrev pub invariant-loop-station : goal.invariant-loop-station
invariant-loop-station l =
    outgoing l.out ++ told (member l.station-iterator.rest.bits) l.note ≡ told (member l.initial.station-iterator.rest.bits) l.note
