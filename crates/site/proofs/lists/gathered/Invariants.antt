-- What the loop over the events keeps: those before the turn have their owners' marks.
use Rattle.std.proofs.Common.{◌≡◌, ℕ, ◌<◌, []}
use Rattle.events.specs.Marks.{marks}
use Rattle.protocol.specs.Turns.{gathered}
use Rattle.site.specs.Statuses.{site_of}
use Rattle.site.proofs.lists.gathered.Given as goal

abbrev pub invariant-loop-event : goal.invariant-loop-event
invariant-loop-event g l = (k : ℕ) → k < l.event → marks l.marking k ≡ gathered (g.R.Rule.meaning l.rule) (site_of (λ _ _. []) l.stations) k
