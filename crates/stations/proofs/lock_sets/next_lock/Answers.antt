-- What is left of the lock set is what is missing.
use Rattle.stations.proofs.Lowests.{missing-is}
use Rattle.stations.proofs.lock_sets.next_lock.Goals as goal

pub returns-clause-is : goal.returns-clause-is
returns-clause-is g c =
    let rule = c.args.rule.now in
    missing-is (g.R.Rule.meaning rule) c.args.event c.args.had.bits c.lock_set.result.bits c.minus.result.bits c.lowest.result (g.met.R.Rule.sized rule).1 c.lock_set.ensures c.minus.ensures c.lowest.ensures
