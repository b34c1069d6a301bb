-- What the releases share.
use Rattle.std.specs.Prelude.{◌≡◌, ℕ, ◌<◌, List, length, ◌≢◌}
use Rattle.graph.specs.Content.{Content, relation_at}
use Rattle.graph.specs.declared.kind.Kind.TheVariants.{Milestone}
use Rattle.graph.specs.declared.relation.Relation.{Relation}
use Rattle.graph.specs.declared.release.Release.TheVariants.{Four, Six}
use Rattle.rules.specs.Semantics.{meant}

abbrev pub WithoutMilestones : List Relation → Type 0
WithoutMilestones rs = (i : ℕ) → i < length rs → (relation_at rs i).kind ≢ Milestone

-- without milestones the releases decide alike, do alike and lock alike
abbrev pub ReleasesAgree : Type 0
ReleasesAgree = (c : Content) → WithoutMilestones c.relations → meant Six c ≡ meant Four c
