-- A turn frees the lock of the lowest own event that is left, if the sender has locked it.
use Rattle.std.proofs.Common.{◌∙◌, sym}
use Rattle.stations.proofs.Freeing.{turn-all, turn-free, turn-keep}
use Rattle.stations.proofs.station.Station.release.Goals as goal

pub loop-event-preserved-then-is_held_by : goal.loop-event-preserved-then-is_held_by
loop-event-preserved-then-is_held_by g c =
    let step = c.in-Some.ensures.steps in
    let freed = c.pass_on.ensures in
    turn-free _ _ _ _ _ c.loop-event.invariant step.0 _ step.1 (sym c.is_held_by.ensures ∙ c.if-is_held_by.true) freed.after freed.count c.marks.ensures freed.posts

pub loop-event-preserved : goal.loop-event-preserved
loop-event-preserved g c =
    let step = c.in-Some.ensures.steps in
    turn-keep _ _ _ _ _ c.loop-event.invariant step.0 _ step.1 (sym c.is_held_by.ensures ∙ c.if-is_held_by.false)

pub returns-clause-posts : goal.returns-clause-posts
returns-clause-posts g c = (turn-all _ _ _ _ _ c.loop-event.invariant c.in-None.ensures.steps.0).1
