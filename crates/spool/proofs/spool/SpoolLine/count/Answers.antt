use Rattle.std.proofs.Common.{◌+◌, ◌*◌, length, get_or, sym, ap, ◌∙◌}
use Rattle.lines.proofs.Placing.{at_place}
use Rattle.spool.specs.Slots.{slots}
use Rattle.spool.proofs.Slots.{length-messages}
use Rattle.spool.proofs.spool.SpoolLine.count.Goals as goal

pub returns-in-Some : goal.returns-in-Some
returns-in-Some c =
    let e = c.in-Some.ensures in
    let bs = c.args.self.now.bytes.now in
    let p = c.in-Some.pair in
    sym (ap length (at_place (slots bs) c.args.from c.args.to p e.0 e.1) ∙ length-messages (get_or bs (13 * p) 0) bs (13 * p + 1))
