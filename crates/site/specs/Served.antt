-- The contract of a call of the program's site.
use Rattle.std.specs.Prelude.{◌≡◌}
use Rattle.lines.specs.declared.line.Line.{Ghosts as LineGhosts}
use Rattle.protocol.specs.Served.{Served}
use Rattle.protocol.specs.declared.call.Call.{Call}
use Rattle.protocol.specs.Outcomes.{Outcome}
use Rattle.rules.specs.declared.rule.Rule.{Ghosts as RuleGhosts}
use Rattle.site.specs.Statuses.{status}
use Rattle.site.specs.declared.site.Site.{Site}

-- the call c of the site s has the outcome o and leaves t
pub record CallServed {R L : Type 0} (rules : RuleGhosts R) (lines : LineGhosts L) (s : Site R L) (c : Call) (o : Outcome) (t : Site R L) : Type 0 where
  pub rule : t.rule ≡ s.rule
  pub sound : lines.sound t.line
  pub served : Served (rules.meaning s.rule) lines.most (status lines s) c o (status lines t)
