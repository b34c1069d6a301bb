use Rattle.std.proofs.Common.{arith, sym}
use Rattle.std.proofs.lemmas.Grind.{common_steps}
use Rattle.graph.specs.Held.{held}
use Rattle.text.proofs.Growth.{event-outcome, relation-outcome}
use Rattle.text.proofs.builder.extend.Goals as goal

pub returns-in-Event-2 : goal.returns-in-Event-2
returns-in-Event-2 c =
    let h = event-outcome (held c.args.draft.now) (held c.add_event.new.self) c.in-Event-2.number c.in-Event-2.owner c.in-Event-2.marks c.add_event.result _ c.add_event.ensures (sym c.if-has_relations.ensures) in
    grind (arith, common_steps, h, c.map_err.ensures.cases)

pub returns-in-Relation : goal.returns-in-Relation
returns-in-Relation c =
    let h = relation-outcome (held c.args.draft.now) (held c.add_relation.new.self) c.in-Relation.kind c.in-Relation.from c.in-Relation.to c.add_relation.result _ c.add_relation.ensures in
    grind (arith, common_steps, h, c.map_err-in-Relation.ensures.cases)
