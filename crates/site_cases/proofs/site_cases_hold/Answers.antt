use Rattle.std.proofs.Common.{refl}
use Rattle.tables.specs.Runs.{after}
use Rattle.protocol.specs.EventSets.{set_of}
use Rattle.protocol.specs.Queues.{post_all, room_for}
use Rattle.protocol.specs.Turns.{lowest_pair}
use Rattle.rules.specs.Semantics.{lowest, related}
use Rattle.site_cases.proofs.site_cases_hold.Goals as goal

pub returns : goal.returns
unfolding after lowest related lowest_pair post_all room_for set_of
returns c = (
  (refl, refl),
  (
    (refl, refl),
    (
      (refl, refl),
      (
        (refl, refl),
        tt,
      ),
    ),
  ),
)
