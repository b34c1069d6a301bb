-- What the loop over the relations keeps.
use Rattle.std.proofs.Common.{◌≡◌, ℕ, ◌||◌, drop}
use Rattle.graph.specs.Held.{content}
use Rattle.graph.specs.declared.kind.Kind.{Kind}
use Rattle.rules.specs.Masked.{linked}
use Rattle.rules.specs.Semantics.{related}
use Rattle.rules.proofs.masks.Masks.of.Given as goal

-- what the masks have and what is left make up all relations
abbrev pub invariant-loop-relation : goal.invariant-loop-relation
invariant-loop-relation l =
    (kind : Kind) (a b : ℕ) → (linked l.masks kind a b || related (drop l.relation-index l.relation-items) kind a b) ≡ related (content l.graph).relations kind a b
