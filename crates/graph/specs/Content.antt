-- What a graph holds, and what every graph keeps.
use Rattle.std.specs.Prelude.{◌≡◌, ℕ, ◌<◌, ◌≤◌, Bool, true, false, ◌&&◌, List, length, ◌==◌, ◌≢◌, slice_index_or}
use Rattle.graph.specs.declared.kind.Kind.TheVariants.{Condition, Milestone}
use Rattle.graph.specs.declared.release.Release.{Release}
use Rattle.graph.specs.declared.release.Release.TheVariants.{Four}
use Rattle.graph.specs.declared.relation.Relation.{Relation}
use Rattle.graph.specs.declared.event.Event.{Event}
use Rattle.graph.specs.Kinds.{opposed}

-- the stations, the release, the events by their numbers and the relations in their order
pub record Content : Type 0 where
  pub stations : ℕ
  pub release : Release
  pub events : List Event
  pub relations : List Relation

-- the zero records, which stand past the last event and the last relation
abbrev pub bare : Event
bare = record { owner = 0; marks = record { executed = false; pending = false; included = false } }

abbrev pub blank : Relation
blank = record { kind = Condition; from = 0; to = 0 }

abbrev pub event_at : List Event → ℕ → Event
event_at es i = slice_index_or es i bare

abbrev pub relation_at : List Relation → ℕ → Relation
relation_at rs i = slice_index_or rs i blank

-- two relations that cannot both stand in a graph: one given twice, and include with exclude on one pair
abbrev pub clash : Relation → Relation → Bool
clash a b = a.from == b.from && a.to == b.to && opposed a.kind b.kind

-- every owner is a station
abbrev pub OwnersIn : ℕ → List Event → Type 0
OwnersIn stations es = (i : ℕ) → i < length es → (event_at es i).owner < stations

-- both ends of every relation are events
abbrev pub EndsIn : ℕ → List Relation → Type 0
EndsIn events rs = (i : ℕ) → i < length rs → ((relation_at rs i).from < events) × ((relation_at rs i).to < events)

-- no relation stands twice, and no pair has both include and exclude
abbrev pub Apart : List Relation → Type 0
Apart rs = (i j : ℕ) → i < j → j < length rs → clash (relation_at rs i) (relation_at rs j) ≢ true

-- release 4 has no milestone
abbrev pub NoMilestone : Release → List Relation → Type 0
NoMilestone release rs = release ≡ Four → (i : ℕ) → i < length rs → (relation_at rs i).kind ≢ Milestone

-- what every graph keeps, from its first declaration on
pub record Sound (c : Content) : Type 0 where
  pub some_stations : 0 < c.stations
  pub few_stations : c.stations ≤ 8
  pub few_events : length c.events ≤ 64
  pub few_relations : length c.relations ≤ 512
  pub owners : OwnersIn c.stations c.events
  pub ends : EndsIn (length c.events) c.relations
  pub apart : Apart c.relations
  pub milestones : NoMilestone c.release c.relations

-- the records past the n-th relation are zero
abbrev pub BlankPast : List Relation → ℕ → Type 0
BlankPast rs n = (i : ℕ) → n ≤ i → relation_at rs i ≡ blank
