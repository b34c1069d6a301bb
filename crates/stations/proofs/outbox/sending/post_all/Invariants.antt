-- What the loop over the posts keeps: those before the turn are posted, and the others find room.
use Rattle.protocol.specs.Queues.{queues}
use Rattle.stations.specs.Paths.{Along}
use Rattle.stations.proofs.Sendings.{Posting}
use Rattle.stations.proofs.outbox.sending.post_all.Given as goal

abbrev pub invariant-loop-post : goal.invariant-loop-post
invariant-loop-post g l =
    g.L.Line.sound l.line
    × Along g.L.Line.beside l.initial.line l.line
    × Posting g.L.Line.most (queues (g.L.Line.waits l.initial.line)) l.from l.posts l.post-index (queues (g.L.Line.waits l.line))
