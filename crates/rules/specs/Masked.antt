-- The relations that masks hold.
use Rattle.graph.specs.declared.kind.Kind.TheVariants.{Condition, Milestone, Response, Include, Exclude}
use Rattle.rules.specs.Cells.{cell}
use Rattle.rules.specs.Semantics.{Relations}
use Rattle.rules.specs.declared.masks.Masks.{Masks}

-- conditions and milestones stand by their targets, the others by their sources
abbrev pub linked : Masks → Relations
linked m Condition a b = cell m.conditions.sets b a
linked m Milestone a b = cell m.milestones.sets b a
linked m Response a b = cell m.responses.sets a b
linked m Include a b = cell m.includes.sets a b
linked m Exclude a b = cell m.excludes.sets a b
