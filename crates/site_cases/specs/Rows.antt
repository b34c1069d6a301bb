-- What a row of the worked cases of sites says.
use Rattle.std.specs.Prelude.{◌≡◌, ℕ, List, map}
use Rattle.graph.specs.declared.relation.Relation.{Relation}
use Rattle.graph.specs.declared.release.Release.TheVariants.{Six}
use Rattle.graph.specs.Content.{Content}
use Rattle.protocol.specs.Play.{new_site, plays}
use Rattle.protocol.specs.declared.call.Call.{Call}
use Rattle.protocol.specs.Outcomes.{Outcome}
use Rattle.rules.specs.Semantics.{meant}
use Rattle.cases.specs.Rows.{marks_of}

-- a graph of release 6, its events included and each with its owner
abbrev pub site_graph : ℕ → List ℕ → List Relation → Content
site_graph stations owners relations = record { stations = stations; release = Six; events = map (λ owner. record { owner = owner; marks = marks_of 4 }) owners; relations = relations }

pub data Row : Type 0 where
  -- calls of a site, and their outcomes, over a line of limit 3 and of limit 4
  site : Content → List Call → List Outcome → Row

abbrev pub Holds : Row → Type 0
Holds (site c calls outcomes) =
    (plays (meant c.release c) 3 (new_site (meant c.release c)) calls ≡ outcomes)
    × (plays (meant c.release c) 4 (new_site (meant c.release c)) calls ≡ outcomes)
