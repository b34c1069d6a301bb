use Rattle.text.proofs.FieldLaws.{none-related}
use Rattle.text.proofs.parser.relation.Goals as goal

pub returns-in_err-from : goal.returns-in_err-from
returns-in_err-from c = rw c.from_residual.ensures (none-related c.args.kind _ c.in_err-from.ensures)
