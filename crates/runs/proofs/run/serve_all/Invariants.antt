use Rattle.std.proofs.Common.{◌≡◌, take, drop}
use Rattle.runs.specs.Running.{Lasts}
use Rattle.site.specs.Statuses.{status}
use Rattle.runs.proofs.run.serve_all.Given as goal

abbrev pub invariant-loop-i : goal.invariant-loop-i
invariant-loop-i g l =
    Lasts (g.R.Rule.meaning l.initial.site.rule) g.L.Line.most (status g.L.Line l.initial.site) (take l.i l.calls) (take l.i l.outcomes) (status g.L.Line l.site)
    × g.L.Line.sound l.site.line
    × (l.site.rule ≡ l.initial.site.rule)
    × (drop l.i l.outcomes ≡ drop l.i l.initial.outcomes)
