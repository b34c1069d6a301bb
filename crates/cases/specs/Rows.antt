-- What a row of the worked cases says.
use Rattle.std.specs.Prelude.{◌≡◌, ℕ, ◌+◌, ◌/◌, ◌%◌, cond, ◌&&◌, List, [], ◌∷◌, map, ◌==◌, nat_lt}
use Rattle.events.specs.declared.marks.Marks.{Marks}
use Rattle.graph.specs.declared.event.Event.{Event}
use Rattle.graph.specs.declared.kind.Kind.{Kind}
use Rattle.graph.specs.declared.relation.Relation.{Relation}
use Rattle.graph.specs.declared.release.Release.TheVariants.{Six}
use Rattle.graph.specs.Content.{Content}
use Rattle.rules.specs.Answers.{answer}
use Rattle.rules.specs.Rule.{Meaning}
use Rattle.tables.specs.Runs.{after, next}
use Rattle.rules.specs.Semantics.{meant}
use Rattle.text.specs.declared.fault.Report.{Report}
use Rattle.text.specs.Reading.{Refused}

-- the marks of a sum: executed 1, pending 2, included 4
abbrev pub marks_of : ℕ → Marks
marks_of sum = record { executed = (sum % 2 == 1); pending = (sum / 2 % 2 == 1); included = (sum / 4 == 1) }

-- a graph of release 6 and one station, its events by their sums of marks
abbrev pub graph_of : List ℕ → List Relation → Content
graph_of sums relations = record { stations = 1; release = Six; events = map (λ sum. record { owner = 0; marks = marks_of sum }) sums; relations = relations }

abbrev pub relation : Kind → ℕ → ℕ → Relation
relation kind from to = record { kind = kind; from = from; to = to }

-- what is answered to requests, one after another: the number and the named event
abbrev pub answers : Meaning → (ℕ → Marks) → List ℕ → List (ℕ × ℕ)
answers R M [] = []
answers R M (e ∷ es) = cond (nat_lt e R.events) (answer (R.decides e M) e) (9, e) ∷ answers R (next R M e) es

-- those of the next n events from k on that are pending and included
abbrev pub owed_from : (ℕ → Marks) → ℕ → List Event → List ℕ
owed_from M k [] = []
owed_from M k (e ∷ es) = cond ((M k).pending && (M k).included) (k ∷ owed_from M (k + 1) es) (owed_from M (k + 1) es)

pub data Row : Type 0 where
  -- requests on one table: the graph, the requests, their answers, the events owed at the end
  table : Content → List ℕ → List (ℕ × ℕ) → List ℕ → Row
  -- a text, and how it is refused
  text : List ℕ → Report → Row

abbrev pub Holds : Row → Type 0
Holds (table c es replies owed) =
    (answers (meant c.release c) (meant c.release c).start es ≡ replies)
    × (owed_from (after (meant c.release c) (meant c.release c).start es) 0 c.events ≡ owed)
Holds (text bytes p) = Refused bytes p
