use Rattle.lines_demo.proofs.show.lists.Given as goal

abbrev pub invariant-loop-from : goal.invariant-loop-from
invariant-loop-from g l = g.L.Line.sound l.line

abbrev pub invariant-loop-to : goal.invariant-loop-to
invariant-loop-to g l = g.L.Line.sound l.line
