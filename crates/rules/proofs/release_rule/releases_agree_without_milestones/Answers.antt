-- The law is a theorem.
use Rattle.rules.proofs.Agreeing.{releases-agree}
use Rattle.rules.proofs.release_rule.releases_agree_without_milestones.Goals as goal

pub returns : goal.returns
returns c = releases-agree
