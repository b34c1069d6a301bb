-- The releases.
use Rattle.std.specs.Prelude.{ℕ, Bool, ◌&&◌, ◌==◌}
use Rattle.graph.specs.declared.kind.Kind.{Kind}
use Rattle.graph.specs.declared.release.Release.{Release}
use Rattle.graph.specs.declared.release.Release.TheVariants.{Four, Six}
use Rattle.graph.specs.Kinds.{kind_number}

abbrev pub release_number : Release → ℕ
release_number Four = 4
release_number Six = 6

-- release 4 has no milestones
abbrev pub barred : Release → Kind → Bool
barred release kind = release_number release == 4 && kind_number kind == 2
