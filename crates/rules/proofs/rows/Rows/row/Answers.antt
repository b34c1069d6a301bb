-- Past the last row there is no event.
use Rattle.std.proofs.Common.{sym, ◌∙◌, arith}
use Rattle.rules.proofs.Masking.{cell-past}
use Rattle.rules.proofs.rows.Rows.row.Goals as goal

pub returns-in-None : goal.returns-in-None
returns-in-None c k = c.empty.ensures k ∙ sym (cell-past c.args.self.now.sets c.args.event k (omega (arith, c.in-None.ensures)))
