-- The number, the layer and the line of each fault, and how they are printed.
use Rattle.std.specs.Prelude.{ℕ, List, ◌++◌, codes, decimal}
use Rattle.graph.specs.Declarations.{error_number}
use Rattle.lexer.specs.declared.fault.ByteFault.TheVariants.{TooLong, Unprintable}
use Rattle.text.specs.declared.fault.LineFault.TheVariants.{Byte, Form}
use Rattle.text.specs.declared.fault.GraphFault.{GraphFault}
use Rattle.text.specs.declared.fault.GraphFault.TheVariants.{Line, Order, Build}
use Rattle.text.specs.declared.fault.Report.{Report}

abbrev pub told : GraphFault → Report
told (Line (Byte TooLong)) = record { number = 7; layer = 1; line = 0 }
told (Line (Byte (Unprintable l))) = record { number = 1; layer = 1; line = l }
told (Line (Form l)) = record { number = 2; layer = 2; line = l }
told (Order l) = record { number = 4; layer = 3; line = l }
told (Build e l) = record { number = error_number e; layer = 3; line = l }

-- fault N, layer L, line K
abbrev pub fault_text : Report → List ℕ
fault_text p = codes "fault " ++ (decimal p.number ++ (codes ", layer " ++ (decimal p.layer ++ (codes ", line " ++ decimal p.line))))
