-- Each post takes a place of its list.
use Rattle.std.proofs.Common.{refl, arith}
use Rattle.protocol.specs.Queues.{queues}
use Rattle.stations.proofs.Sendings.{counted-all, counted-full, counted-more}
use Rattle.stations.proofs.outbox.sending.has_room.Goals as goal

pub loop-post-init : goal.loop-post-init
loop-post-init g c = (queues (g.L.Line.waits c.args.line.now), c.room_from-room.ensures.long, c.room_from-room.ensures.room, refl)

pub returns-then-room-to-eq0 : goal.returns-then-room-to-eq0
returns-then-room-to-eq0 g c =
    counted-full g.L.Line.most (queues (g.L.Line.waits c.args.line.now)) c.args.from c.args.posts.now c.loop-post.post-index _ c.loop-post.room c.loop-post-test.true c.requires.1 c.from-to.ensures c.loop-post.invariant c.if-room-to-eq0.true

pub loop-post-preserved : goal.loop-post-preserved
loop-post-preserved g c =
    counted-more g.L.Line.most (queues (g.L.Line.waits c.args.line.now)) c.args.from c.args.posts.now c.loop-post.post-index _ c.loop-post.room c.loop-post-test.true c.requires.1 c.from-to.ensures c.loop-post.invariant c.if-room-to-eq0.false

pub returns : goal.returns
returns g c = counted-all g.L.Line.most (queues (g.L.Line.waits c.args.line.now)) c.args.from c.args.posts.now c.loop-post.post-index c.loop-post.room (omega arith) c.loop-post.invariant
