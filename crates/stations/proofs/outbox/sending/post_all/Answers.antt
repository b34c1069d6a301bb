-- Each turn posts one message.
use Rattle.std.proofs.Common.{refl, arith}
use Rattle.protocol.specs.Queues.{queues}
use Rattle.stations.specs.Paths.{further, still}
use Rattle.stations.proofs.Sendings.{posting-all, posting-more}
use Rattle.stations.proofs.outbox.sending.post_all.Goals as goal

pub loop-post-init : goal.loop-post-init
loop-post-init g c = (c.requires.1.0, still, (refl, c.requires.1.1.1))

pub loop-post-preserved : goal.loop-post-preserved
loop-post-preserved g c =
    let W = g.L.Line.waits in
    let inv = c.loop-post.invariant in
    (c.post.ensures.kept, further inv.1 c.post.ensures.beside, posting-more g.L.Line.most (queues (W c.args.line.now)) (W c.loop-post.line) (W c.post.new.self) c.args.from c.args.posts.now c.loop-post.post-index c.into.result c.loop-post-test.true c.requires.1.1.0 c.requires.0 c.into.ensures c.post.ensures.lists inv.2)

pub returns-clause-lists : goal.returns-clause-lists
returns-clause-lists g c =
    let W = g.L.Line.waits in
    posting-all g.L.Line.most (queues (W c.args.line.now)) (queues (W c.loop-post.line)) c.args.from c.args.posts.now c.loop-post.post-index (omega arith) c.loop-post.invariant.2
