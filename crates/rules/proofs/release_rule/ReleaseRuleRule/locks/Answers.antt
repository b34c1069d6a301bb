use Rattle.std.proofs.Common.{arith}
use Rattle.std.proofs.lemmas.Grind.{common_steps}
use Rattle.rules.proofs.release_rule.ReleaseRuleRule.locks.Goals as goal

pub returns : goal.returns
returns c k = grind (arith, common_steps)
