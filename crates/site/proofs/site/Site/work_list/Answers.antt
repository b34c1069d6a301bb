-- No message waits, and the marking gathered is the whole site's on the events of the rule.
use Rattle.std.proofs.Common.{◌≡◌, ℕ, ◌<◌, refl}
use Rattle.events.specs.Marks.{marks}
use Rattle.protocol.specs.Turns.{gathered}
use Rattle.site.proofs.Listing.{enabled-is, list-served, owed-is}
use Rattle.site.proofs.Serving.{call-read, lent-for-reading, open_status}
use Rattle.site.proofs.site.Site.work_list.Goals as goal

pub returns : goal.returns
returns g c =
    let site = c.args.self.now in
    let is_open = lent-for-reading c.as_ref.ensures.value c.in_ok-stations.ensures.ok_part in
    let rule = site.rule in
    let R = g.R.Rule.meaning rule in
    let h = open_status g.R.Rule g.L.Line site c.in_ok-stations.stations.now is_open in
    let M = marks c.gathered-marking.result in
    let N = gathered R h.site in
    let agree : (k : ℕ) → k < R.events → M k ≡ N k = λ k l. c.gathered-marking.ensures (g.L.Line.waits site.line) k l in
    call-read g.R.Rule g.L.Line site c.in_ok-stations.stations.now is_open _ _ c.requires
    (list-served R g.L.Line.most h _ c.lowest_pair.result c.enabled_events.result c.common.result refl c.lowest_pair.ensures c.if-is_some.ensures
    (enabled-is R M N agree (g.met.R.Rule.lawful rule) c.enabled_events.result c.enabled_events.ensures)
    (owed-is R M N agree c.events.result c.owed.result c.first.result c.common.result (g.met.R.Rule.sized rule).1 c.events.ensures.is c.owed.ensures c.first.ensures c.common.ensures))
