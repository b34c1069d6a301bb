-- What the loop over the messages keeps: so many were carried, and their answers stand in the table.
use Rattle.site.specs.Settling.{Carrying}
use Rattle.site.specs.Statuses.{site_of}
use Rattle.site.proofs.settles.carry_all.Given as goal

abbrev pub invariant-loop-messages : goal.invariant-loop-messages
invariant-loop-messages g l =
    Carrying (g.R.Rule.meaning l.rule) g.L.Line.most (site_of (g.L.Line.waits l.initial.line) l.initial.stations) l.initial.table l.messages l.answers l.table (site_of (g.L.Line.waits l.line) l.stations)
    × g.L.Line.sound l.line
