-- What the loop over the locks keeps: the owners noted and those of the locks that are left are all the owners.
use Rattle.std.proofs.Common.{◌≡◌, ℕ, ◌||◌}
use Rattle.events.specs.Members.{member}
use Rattle.stations.proofs.Lowests.{owner_among}
use Rattle.stations.proofs.lock_sets.stations_concerned.Given as goal

abbrev pub invariant-loop-lock : goal.invariant-loop-lock
invariant-loop-lock g l =
    (k : ℕ) → (member l.owners.bits k || owner_among (g.R.Rule.meaning l.rule) l.lock-iterator.rest.bits k) ≡ owner_among (g.R.Rule.meaning l.rule) l.initial.lock-iterator.rest.bits k
