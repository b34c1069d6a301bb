-- Without milestones the releases mean the same.
use Rattle.std.proofs.Common.{◌≡◌, ℕ, List, refl, ap}
use Rattle.std.proofs.lemmas.Bool.{false_from_ne_true}
use Rattle.graph.specs.declared.kind.Kind.{Kind}
use Rattle.graph.specs.declared.kind.Kind.TheVariants.{Condition, Milestone, Response, Include, Exclude}
use Rattle.graph.specs.declared.relation.Relation.{Relation}
use Rattle.graph.specs.declared.release.Release.TheVariants.{Four, Six}
use Rattle.rules.specs.Releases.{ReleasesAgree, WithoutMilestones}
use Rattle.rules.specs.Semantics.{read, rule_of}
use Rattle.rules.specs.Related.{related-tells}

same_read : (rs : List Relation) → WithoutMilestones rs → (kind : Kind) (a b : ℕ) → read Six rs kind a b ≡ read Four rs kind a b
same_read rs none Condition a b = refl
same_read rs none Milestone a b =
    false_from_ne_true _ (λ t. let h = (related-tells rs Milestone a b).0 t in none h.0 h.1 (ap (λ (r : Relation). r.kind) h.2))
same_read rs none Response a b = refl
same_read rs none Include a b = refl
same_read rs none Exclude a b = refl

pub releases-agree : ReleasesAgree
releases-agree c none = ap (rule_of c) (λ i kind a b. same_read c.relations none kind a b i)
