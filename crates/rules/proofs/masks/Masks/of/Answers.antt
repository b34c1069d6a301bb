-- Each turn adds one relation.
use Rattle.std.proofs.Common.{length, sym, subst}
use Rattle.graph.proofs.Drafts.{sound}
use Rattle.graph.specs.Content.{EndsIn}
use Rattle.graph.specs.Held.{content}
use Rattle.rules.proofs.Masking.{add-one-more, all-added}
use Rattle.rules.proofs.masks.Masks.of.Goals as goal

pub loop-relation-preserved : goal.loop-relation-preserved
loop-relation-preserved c kind a b =
    let g = c.args.graph.now in
    let s = sound g.draft in
    let n = length (content g).events in
    let ends = subst (EndsIn n) (sym c.relations-relation-items.ensures) s.ends in
    add-one-more _ n _ kind a b _ _ (c.loop-relation.invariant kind a b) _ s.few_events ends c.loop-relation-test.true (c.add.ensures kind a b)

pub returns : goal.returns
returns c kind a b = all-added _ 0 _ kind a b _ _ (c.loop-relation.invariant kind a b) c.loop-relation-test.false
