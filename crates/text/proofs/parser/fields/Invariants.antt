use Rattle.text.proofs.FieldLaws.{Reading}
use Rattle.text.proofs.parser.fields.Given as goal

abbrev pub invariant-loop-number : goal.invariant-loop-number
invariant-loop-number g l = Reading g.row.N l.fn.words.rest.bytes.now l.words.rest.bytes.now l.number-items l.number-index
