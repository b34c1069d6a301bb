-- What the loops over the pairs keep: no message waits on the pairs before the turn.
use Rattle.std.proofs.Common.{◌+◌, ◌*◌}
use Rattle.site.proofs.LowestPairs.{NoneBefore}
use Rattle.site.proofs.pairs.lowest_pair.Given as goal

abbrev pub invariant-loop-from : goal.invariant-loop-from
invariant-loop-from g l = NoneBefore (g.L.Line.waits l.line) (8 * l.from-index + 0)

abbrev pub invariant-loop-b : goal.invariant-loop-b
invariant-loop-b g l = NoneBefore (g.L.Line.waits l.line) (8 * l.from-index + l.b)
