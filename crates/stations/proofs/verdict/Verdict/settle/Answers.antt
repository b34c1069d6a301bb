-- Each turn tells the lowest station that is left.
use Rattle.std.proofs.Common.{◌≡◌, ap, ◌∙◌, ap₂}
use Rattle.events.specs.Members.{member}
use Rattle.lines.specs.declared.note.Note.TheVariants.{Settle}
use Rattle.stations.specs.Outgoing.{outgoing}
use Rattle.stations.specs.Telling.{told}
use Rattle.stations.proofs.Tellings.{told-few, told_more, told_none}
use Rattle.stations.proofs.verdict.Verdict.settle.Goals as goal

pub push-requires : goal.push-requires
push-requires c =
    (told-few _ _ _ (outgoing c.loop-station.out) c.loop-station.invariant, c.in-Some.ensures.steps.0.below)

pub loop-station-preserved : goal.loop-station-preserved
loop-station-preserved c =
    let step = c.in-Some.ensures.steps in
    told_more _ _ c.in-Some.station _ (outgoing c.loop-station.out) (outgoing c.push.new.self) _ step.0 step.1 c.loop-station.invariant c.push.ensures.posts

pub returns-clause-posts : goal.returns-clause-posts
returns-clause-posts c =
    let all : c.into_iter-station-iterator.result.rest ≡ c.args.self.concerned =
    ap (λ s. s.rest) c.into_iter-station-iterator.ensures.into_iter_gives ∙ c.members-station-items.ensures in
    told_none (member c.loop-station.station-iterator.rest.bits) _ (outgoing c.loop-station.out) _ c.loop-station.invariant c.in-None.ensures.steps.0
    ∙ ap₂ (λ s ok. told (member s.bits) (Settle c.args.self.event ok)) all c.is_accepted.ensures
