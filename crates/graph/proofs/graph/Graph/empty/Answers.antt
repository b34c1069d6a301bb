use Rattle.std.proofs.Common.{arith}
use Rattle.graph.proofs.Drafts.{fresh-draft}
use Rattle.graph.proofs.graph.Graph.empty.Goals as goal

pub invariant-of-draft : goal.invariant-of-draft
invariant-of-draft c = fresh-draft 1 _ 1 (omega arith) (omega arith) (omega arith)
