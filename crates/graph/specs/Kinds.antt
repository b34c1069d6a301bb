-- The kinds of relations.
use Rattle.std.specs.Prelude.{ℕ, Bool, ◌&&◌, ◌||◌, ◌==◌}
use Rattle.graph.specs.declared.kind.Kind.{Kind}
use Rattle.graph.specs.declared.kind.Kind.TheVariants.{Condition, Milestone, Response, Include, Exclude}

abbrev pub kind_number : Kind → ℕ
kind_number Condition = 1
kind_number Milestone = 2
kind_number Response = 3
kind_number Include = 4
kind_number Exclude = 5

-- kinds that cannot both stand on one pair: the same kind twice, and include with exclude
abbrev pub opposed : Kind → Kind → Bool
opposed k l = kind_number k == kind_number l || (kind_number k == 4 && kind_number l == 5) || (kind_number k == 5 && kind_number l == 4)
