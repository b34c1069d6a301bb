-- The worked cases. A case joins the table as one row more.
use Rattle.std.specs.Prelude.{List, [], ◌∷◌}
use Rattle.std.specs.List.{AllByRecursion}
use Rattle.graph.specs.declared.kind.Kind.TheVariants.{Condition, Exclude, Milestone, Response}
use Rattle.cases.specs.Rows.{Holds, Row, graph_of, relation, table, text}

abbrev pub rows : List Row
rows =
    -- one included event that excludes itself is done once, and then refused 21 naming itself
    table (graph_of (4 ∷ []) (relation Exclude 0 0 ∷ [])) (0 ∷ 0 ∷ []) ((0, 0) ∷ (21, 0) ∷ []) []
    -- one that responds to itself is done, and owed again
    ∷ table (graph_of (4 ∷ []) (relation Response 0 0 ∷ [])) (0 ∷ []) ((0, 0) ∷ []) (0 ∷ [])
    -- a condition source that is not included stands in nobody's way
    ∷ table (graph_of (0 ∷ 4 ∷ []) (relation Condition 0 1 ∷ [])) (1 ∷ []) ((0, 1) ∷ []) []
    -- a milestone source that is included and pending holds event 1 until it is done
    ∷ table (graph_of (6 ∷ 4 ∷ []) (relation Milestone 0 1 ∷ [])) (1 ∷ 0 ∷ 1 ∷ []) ((23, 0) ∷ (0, 0) ∷ (0, 1) ∷ []) []
    -- an empty text lacks its s line
    ∷ text [] (record { number = 4; layer = 3; line = 1 })
    ∷ []

abbrev pub WorkedCases : Type 0
WorkedCases = AllByRecursion Holds rows
