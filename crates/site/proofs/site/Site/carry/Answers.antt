-- One message was carried between the stations of those numbers.
use Rattle.std.proofs.Common.{Ok, refl, subst₂}
use Rattle.protocol.specs.Turns.{opened}
use Rattle.site.specs.Statuses.{site_of}
use Rattle.site.specs.Transfers.{Transferred}
use Rattle.site.proofs.Serving.{call-served, carried, lent, open_status}
use Rattle.site.proofs.site.Site.carry.Goals as goal

pub returns : goal.returns
returns g c =
    let site = c.args.self.now in
    let is_open = lent c.as_mut.ensures.value c.in_ok-stations.ensures.ok_part in
    let R = g.R.Rule.meaning site.rule in
    let h = open_status g.R.Rule g.L.Line site c.in_ok-stations.stations.now is_open in
    let T = site_of (g.L.Line.waits c.transfer.new.line) c.transfer.new.stations in
    let from = c.in_ok-from.ensures in
    let to = c.in_ok-to.ensures in
    call-served g.R.Rule g.L.Line site c.in_ok-stations.stations.now is_open _ _ _ refl c.transfer.ensures.sound
    (carried R g.L.Line.most h (opened T) c.args.from c.args.to refl refl from.0 to.0 (Ok c.in_ok-transfer.field-0)
    (subst₂ (λ a b. Transferred R g.L.Line.most h.site a b (Ok c.in_ok-transfer.field-0) T) from.1 to.1 c.in_ok-transfer.ensures.transferred))
