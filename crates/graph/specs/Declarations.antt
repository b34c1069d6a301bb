-- What a declaration adds to a graph, and why one is refused.
use Rattle.std.specs.Prelude.{◌≡◌, ℕ, Bool, cond, not, ◌&&◌, ◌||◌, List, [], ◌∷◌, ◌++◌, length, Some, None, Option, ◌==◌, nat_le, nat_lt}
use Rattle.std.specs.List.{list_any}
use Rattle.events.specs.Marks.{sum_of}
use Rattle.graph.specs.declared.kind.Kind.{Kind}
use Rattle.graph.specs.declared.release.Release.{Release}
use Rattle.graph.specs.declared.release.Release.TheVariants.{Six}
use Rattle.graph.specs.declared.relation.Relation.{Relation}
use Rattle.graph.specs.declared.event.Event.{Event}
use Rattle.graph.specs.declared.error.BuildError.{BuildError}
use Rattle.graph.specs.declared.error.BuildError.TheVariants.{Full, Invalid, Conflict}
use Rattle.graph.specs.Releases.{barred}
use Rattle.graph.specs.Content.{Content, bare, clash}

-- the numbers of what a draft refuses
abbrev pub error_number : BuildError → ℕ
error_number Full = 6
error_number Invalid = 3
error_number Conflict = 5

-- the empty graph: one station, release 6, one event with owner and marks 0, no relation
abbrev pub empty_content : Content
empty_content = record { stations = 1; release = Six; events = bare ∷ []; relations = [] }

-- 1 to 8 stations, release 4 or 6
abbrev pub fits_head : ℕ → ℕ → Bool
fits_head stations release = nat_lt 0 stations && nat_le stations 8 && (release == 4 || release == 6)

-- a graph with nothing but its stations and its release
abbrev pub begun : ℕ → Release → Content
begun stations release = record { stations = stations; release = release; events = []; relations = [] }

-- all 64 events, all 512 relations are there
abbrev pub full_of_events : Content → Bool
full_of_events c = length c.events == 64

abbrev pub full_of_relations : Content → Bool
full_of_relations c = length c.relations == 512

-- an event has the next number, a station for its owner, and a sum of marks
abbrev pub fits_event : Content → ℕ → ℕ → ℕ → Bool
fits_event c number owner marks = number == length c.events && nat_lt owner c.stations && nat_le marks 7

-- a relation's ends are events, and its release has its kind
abbrev pub fits_relation : Content → Kind → ℕ → ℕ → Bool
fits_relation c kind from to = nat_lt from (length c.events) && nat_lt to (length c.events) && not (barred c.release kind)

-- the relation stands already, or an include with an exclude on its pair
abbrev pub clashing : List Relation → Kind → ℕ → ℕ → Bool
clashing rs kind from to = list_any (λ r. clash r (record { kind = kind; from = from; to = to })) rs

-- why an event, why a relation is refused, if it is
abbrev pub event_error : Content → ℕ → ℕ → ℕ → Option BuildError
event_error c number owner marks = cond (full_of_events c) (Some Full) (cond (fits_event c number owner marks) None (Some Invalid))

abbrev pub relation_error : Content → Kind → ℕ → ℕ → Option BuildError
relation_error c kind from to =
    cond (full_of_relations c) (Some Full)
    (cond (fits_relation c kind from to) (cond (clashing c.relations kind from to) (Some Conflict) None) (Some Invalid))

-- one event more, at the end
abbrev pub plus_event : Content → Event → Content
plus_event c e = record { stations = c.stations; release = c.release; events = c.events ++ e ∷ []; relations = c.relations }

-- one relation more, at the end
abbrev pub plus_relation : Content → Relation → Content
plus_relation c r = record { stations = c.stations; release = c.release; events = c.events; relations = c.relations ++ r ∷ [] }

-- the event has that owner, and marks with that sum
abbrev pub Declared : Event → ℕ → ℕ → Type 0
Declared e owner marks = (e.owner ≡ owner) × (sum_of e.marks ≡ marks)
