-- The rule is right of the graph that it was given.
use Rattle.graph.proofs.Drafts.{sound}
use Rattle.graph.specs.Held.{content}
use Rattle.rules.proofs.Rightly.{rightful}
use Rattle.rules.proofs.release_rule.ReleaseRule.new.Goals as goal

pub returns-clause-right : goal.returns-clause-right
returns-clause-right c = rightful c.args.release (content c.args.graph) (sound c.args.graph.draft)
