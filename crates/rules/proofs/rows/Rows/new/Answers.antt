-- Fresh rows are empty.
use Rattle.rules.proofs.Masking.{cell-fresh}
use Rattle.rules.proofs.rows.Rows.new.Goals as goal

pub returns : goal.returns
returns c = cell-fresh 64 c.empty.result c.empty.ensures
