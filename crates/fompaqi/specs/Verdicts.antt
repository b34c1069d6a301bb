-- The first line that a check prints.
use Rattle.std.specs.Prelude.{ℕ, List, ◌++◌, Result, Ok, Err, length, codes, decimal}
use Rattle.std.specs.Borrow.{Bor}
use Rattle.graph.specs.Content.{Content}
use Rattle.graph.specs.Held.{content}
use Rattle.graph.specs.declared.graph.Graph.{Graph}
use Rattle.graph.specs.Releases.{release_number}
use Rattle.text.specs.Faults.{fault_text, told}
use Rattle.text.specs.declared.fault.GraphFault.{GraphFault}
use Rattle.text.specs.declared.fault.Report.{Report}

-- ok: S stations, release R, E events, N relations
abbrev pub counts_line : ℕ → ℕ → ℕ → ℕ → List ℕ
counts_line stations release events relations =
    codes "ok: " ++ (decimal stations ++ (codes " stations, release " ++ (decimal release ++ (codes ", " ++ (decimal events ++ (codes " events, " ++ (decimal relations ++ codes " relations")))))))

abbrev pub ok_line : Content → List ℕ
ok_line c = counts_line c.stations (release_number c.release) (length c.events) (length c.relations)

-- fault N, layer L, line K
abbrev pub fault_line : Report → List ℕ
fault_line = fault_text

-- what is told first of a text that was read
abbrev pub verdict_line : Result (Bor Graph) (Bor GraphFault) → List ℕ
verdict_line (Ok graph) = ok_line (content graph.now)
verdict_line (Err fault) = fault_line (told fault.now)
