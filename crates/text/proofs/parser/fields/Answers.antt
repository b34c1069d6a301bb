use Rattle.std.proofs.Common.{arith}
use Rattle.text.proofs.FieldLaws.{reading-more, reading-stuck}
use Rattle.text.proofs.parser.fields.Goals as goal

pub returns-in_err-number : goal.returns-in_err-number
returns-in_err-number g c = rw c.from_residual.ensures (let inv = c.loop-number.invariant in reading-stuck inv (omega (arith, inv.long)) c.in_err-number.ensures)

pub loop-number-preserved : goal.loop-number-preserved
loop-number-preserved g c =
    let inv = c.loop-number.invariant in
    let t = c.in_ok-number.ensures in
    reading-more inv _ _ (omega (arith, inv.long)) t.0 t.1 t.2
