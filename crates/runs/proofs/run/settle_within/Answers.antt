-- The settle of a table of eight entries, cut to the room.
use Rattle.std.proofs.Common.{Ok, refl}
use Rattle.site.proofs.Settling.{settle-served}
use Rattle.runs.proofs.run.settle_within.Goals as goal

pub returns : goal.returns
returns g c =
    record {
      rule = c.settle.ensures.rule;
      sound = c.settle.ensures.sound;
      served = settle-served _ _ _ _ c.args.room c.min.result c.min.ensures _ refl (Ok c.in_ok-settlement.settlement) _ _ c.in_ok-settlement.ensures.settles;
    }
