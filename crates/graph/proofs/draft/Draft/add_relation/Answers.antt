use Rattle.std.proofs.Common.{sym, ◌∙◌, arith}
use Rattle.std.proofs.lemmas.List.{length-set}
use Rattle.std.proofs.lemmas.Bool.{not-true}
use Rattle.graph.specs.Content.{blank}
use Rattle.graph.proofs.Drafts.{apart_more, ends_more, milestones-more}
use Rattle.graph.proofs.Tables.{past}
use Rattle.graph.proofs.draft.Draft.add_relation.Goals as goal

pub invariant_of-self-clause-ends : goal.invariant_of-self-clause-ends
invariant_of-self-clause-ends c =
    let d = c.args.self.now in ends_more d.table d.relations _ (omega arith) _ (omega arith) (omega arith) d.ends

pub invariant_of-self-clause-apart : goal.invariant_of-self-clause-apart
invariant_of-self-clause-apart c =
    let d = c.args.self.now in apart_more d.table d.relations _ (omega arith) (sym c.if-conflicts.ensures) d.apart

pub invariant_of-self-clause-milestones : goal.invariant_of-self-clause-milestones
invariant_of-self-clause-milestones c =
    let d = c.args.self.now in
    milestones-more d.table d.relations _ (omega arith) d.release (not-true _ (sym c.if-not-allows.ensures)) d.milestones

pub invariant_of-self-clause-blank : goal.invariant_of-self-clause-blank
invariant_of-self-clause-blank c = past blank _ _ _ c.args.self.now.blank

pub invariant_of-self-clause-long : goal.invariant_of-self-clause-long
invariant_of-self-clause-long c = length-set _ _ _ ∙ c.args.self.now.long
