-- What the loop over the posts keeps: the table counts for the lists with the posts before the turn.
use Rattle.protocol.specs.Queues.{queues}
use Rattle.stations.proofs.Sendings.{Counted}
use Rattle.stations.proofs.outbox.sending.has_room.Given as goal

abbrev pub invariant-loop-post : goal.invariant-loop-post
invariant-loop-post g l = Counted g.L.Line.most (queues (g.L.Line.waits l.line)) l.from l.posts l.post-index l.room
