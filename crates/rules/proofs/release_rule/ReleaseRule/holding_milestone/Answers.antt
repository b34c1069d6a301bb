-- The members of the set are the holding milestones.
use Rattle.std.proofs.Common.{arith}
use Rattle.std.proofs.lemmas.Bool.Decides.{nat_tests}
use Rattle.events.specs.Marks.{marks}
use Rattle.graph.specs.Held.{content}
use Rattle.rules.specs.Semantics.{holding, read}
use Rattle.rules.specs.Laws.{graph-within, holding-within}
use Rattle.rules.specs.Lowest.{lowest-member}
use Rattle.rules.proofs.release_rule.ReleaseRule.holding_milestone.Goals as goal

pub returns : goal.returns
returns c =
    let r = c.args.self.now in
    let e = c.args.event in
    let M = marks c.args.marking.now in
    let rel = read r.release (content r.graph).relations in
    lowest-member (holding rel e M) _ c.common.result.bits c.lowest.result
    (λ k.
    let p = c.common.ensures k in
    let i = c.common-included.ensures k in
    let s = c.milestones.ensures k in grind (arith, nat_tests))
    (holding-within rel _ (graph-within r.graph r.release) e M)
    c.lowest.ensures
