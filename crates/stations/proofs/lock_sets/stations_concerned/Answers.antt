-- Each turn notes the owner of the lowest lock that is left.
use Rattle.std.proofs.Common.{◌≡◌, ap, ◌∙◌}
use Rattle.events.specs.Members.{member}
use Rattle.stations.proofs.Lowests.{owner-all, owner-more}
use Rattle.stations.proofs.lock_sets.stations_concerned.Goals as goal

pub loop-lock-preserved : goal.loop-lock-preserved
loop-lock-preserved g c k =
    let R = g.R.Rule.meaning c.args.rule.now in
    let step = c.in-Some.ensures.steps in
    owner-more R c.loop-lock.lock-iterator.rest.bits _ c.in-Some.lock k c.owner.result _ _ step.0 step.1 c.owner.ensures.is c.owner.ensures.few (c.with-owners.ensures k) ∙ c.loop-lock.invariant k

pub returns : goal.returns
returns g c k =
    let rule = c.args.rule.now in
    let all : c.into_iter-lock-iterator.result.rest ≡ c.lock_set.result =
    ap (λ s. s.rest) c.into_iter-lock-iterator.ensures.into_iter_gives ∙ c.members-lock-items.ensures in
    owner-all (g.R.Rule.meaning rule) c.args.event k _ c.loop-lock.lock-iterator.rest.bits _ (g.met.R.Rule.sized rule).1 (λ j. ap (λ s. member s.bits j) all ∙ c.lock_set.ensures j) c.in-None.ensures.steps.0 (c.loop-lock.invariant k)
