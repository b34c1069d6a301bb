use Rattle.graph.specs.Content.{blank}
use Rattle.graph.proofs.Tables.{fresh}
use Rattle.graph.proofs.draft.Draft.new.Goals as goal

pub invariant_of-result-clause-blank : goal.invariant_of-result-clause-blank
invariant_of-result-clause-blank c i h = fresh blank 512 i
