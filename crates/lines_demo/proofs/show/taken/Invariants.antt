use Rattle.std.proofs.Common.{length}
use Rattle.lines_demo.proofs.show.taken.Given as goal

abbrev pub invariant-loop-oldest : goal.invariant-loop-oldest
invariant-loop-oldest g l = g.L.Line.sound l.line

abbrev pub decreases-loop-oldest : goal.decreases-loop-oldest
decreases-loop-oldest g l = length (g.L.Line.waits l.line l.from l.to)
