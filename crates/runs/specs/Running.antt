-- What is promised of a list of calls that the program runs.
use Rattle.std.specs.Prelude.{◌≡◌, ℕ, List, ◌++◌}
use Rattle.protocol.specs.Promise.{Promise}
use Rattle.protocol.specs.Queues.{Queues}
use Rattle.protocol.specs.Turns.{Status}
use Rattle.protocol.specs.declared.call.Call.{Call}
use Rattle.protocol.specs.Outcomes.{Outcome}
use Rattle.rules.specs.Rule.{Meaning}

-- whatever was called before: if the promise holds of it, and left h, then it holds of it together with these calls, which leave g
abbrev pub Lasts : Meaning → ℕ → Status → List Call → List Outcome → Status → Type 0
Lasts R limit h calls outcomes g = (before : Status) (past : List Call) (told : List Outcome)
    → Promise R limit before past told h → Promise R limit before (past ++ calls) (told ++ outcomes) g

-- the promise holds of the calls of a site that was put together over a line on which W waits
pub record Promised (R : Meaning) (limit : ℕ) (W : Queues) (calls : List Call) (outcomes : List Outcome) : Type 0 where
  pub before : Status
  pub now : Status
  pub over : before.site.waits ≡ W
  pub promise : Promise R limit before calls outcomes now
