-- What a draft and a graph hold.
use Rattle.std.specs.Prelude.{take}
use Rattle.graph.specs.declared.draft.Draft.{Draft}
use Rattle.graph.specs.declared.graph.Graph.{Graph}
use Rattle.graph.specs.Content.{Content}

abbrev pub held : Draft → Content
held d =
    record {
      stations = d.stations;
      release = d.release;
      events = d.events.items;
      relations = take d.relations d.table;
    }

abbrev pub content : Graph → Content
content g = held g.draft
