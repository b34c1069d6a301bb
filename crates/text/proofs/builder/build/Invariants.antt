use Rattle.std.proofs.Common.{◌≡◌, Some}
use Rattle.graph.specs.Held.{held}
use Rattle.text.proofs.Steps.{Reached}
use Rattle.text.proofs.builder.build.Given as goal

-- the lines so far are those of the draft
abbrev pub invariant-loop-entry : goal.invariant-loop-entry
invariant-loop-entry l = Reached l.text (Some (held l.draft)) l.entry-iterator.lines.rest.bytes.now l.entry-iterator.lines.number × (l.last ≡ l.entry-iterator.lines.number)
