use Rattle.lines.proofs.Queueing.{queues}
use Rattle.lines.proofs.play.pairs_are_queues.Goals as goal

pub returns : goal.returns
returns c = queues
