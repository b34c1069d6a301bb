-- The marks change if the event is accepted, and then the locks are freed.
use Rattle.std.proofs.Common.{◌≡◌, sym, ap, ◌∙◌}
use Rattle.protocol.specs.Station.{marked}
use Rattle.stations.specs.Locks.{remarked}
use Rattle.stations.specs.Outgoing.{outgoing}
use Rattle.stations.specs.Shows.{shows}
use Rattle.stations.proofs.Freeing.{marked-not, settled_is}
use Rattle.stations.proofs.station.Station.settle.Goals as goal
use Rattle.stations.proofs.station.Station.settle.Goals.{else-accepted, then-accepted}

pub returns : goal.returns
returns g c =
    let R = g.R.Rule.meaning c.args.role.now.rule.now in
    let S = shows c.args.self.now in
    let a = c.args.from in
    let b = c.args.role.now.me in
    let e = c.args.event in
    let ok = c.args.accepted in
    let T = shows c.if-accepted.self in
    let changed : T ≡ remarked S (marked R S b e ok) = elim c.if-accepted.branch [
      | then-accepted w ↦ ap shows w.self-is ∙ w.perform.ensures ∙ ap (λ x. remarked S (marked R S b e x)) (sym w.if-accepted.true)
      | else-accepted w ↦ ap shows w.self-is ∙ marked-not R S b e ∙ ap (λ x. remarked S (marked R S b e x)) (sym w.if-accepted.false)
    ] in
    let h = settled_is R S T (shows c.release.new.self) a b e ok (outgoing c.release.result) changed c.release.ensures.after c.release.ensures.posts in
    record { after = h.0; posts = h.1 }
