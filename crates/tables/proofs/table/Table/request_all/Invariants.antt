-- What the loop over the requests keeps.
use Rattle.std.proofs.Common.{◌≡◌, drop}
use Rattle.events.specs.Marks.{marks}
use Rattle.tables.specs.Runs.{after}
use Rattle.tables.proofs.table.Table.request_all.Given as goal

-- what is left of the run leads to where the whole run leads
abbrev pub invariant-loop-event : goal.invariant-loop-event
invariant-loop-event g l =
    (l.self.rule ≡ l.initial.self.rule)
    × (after (g.R.Rule.meaning l.initial.self.rule) (marks l.self.marking) (drop l.event-index l.events) ≡ after (g.R.Rule.meaning l.initial.self.rule) (marks l.initial.self.marking) l.events)
