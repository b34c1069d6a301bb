use Rattle.std.proofs.Common.{◌≡◌, length, rules}
use Rattle.fompaqi.proofs.Numbers.{one_number}
use Rattle.fompaqi.proofs.script.last_number.Goals as goal

pub returns : goal.returns
returns c =
    let one : length c.in_ok-n.field-0 ≡ 1 = search rules in
    let t = c.in_ok-n.ensures in
    rw c.ok.ensures.value (one_number _ c.in_ok-n.field-0 c.try_from.result one t.0 t.1 c.try_from.ensures)
