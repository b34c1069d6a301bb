use Rattle.std.proofs.Common.{◌≡◌, take, drop}
use Rattle.lines.specs.Plays.{answers, lists}
use Rattle.lines.proofs.play.play.Given as goal

abbrev pub invariant-loop-i : goal.invariant-loop-i
invariant-loop-i g l = g.L.Line.sound l.line × (g.L.Line.waits l.line ≡ lists g.L.Line.most (g.L.Line.waits l.initial.line) (take l.i l.calls)) × (take l.i l.places ≡ answers g.L.Line.most (g.L.Line.waits l.initial.line) (take l.i l.calls)) × (drop l.i l.places ≡ drop l.i l.initial.places)
