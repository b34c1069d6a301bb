-- The station is known, and its own owed events are the tally.
use Rattle.std.proofs.Common.{refl, ◌∙◌}
use Rattle.site.proofs.Listing.{own-owed-is, tally-served}
use Rattle.site.proofs.Serving.{call-read, lent-for-reading, open_status}
use Rattle.site.proofs.site.Site.tally.Goals as goal

pub returns : goal.returns
returns g c =
    let site = c.args.self.now in
    let is_open = lent-for-reading c.as_ref.ensures.value c.in_ok-stations.ensures.ok_part in
    let R = g.R.Rule.meaning site.rule in
    let h = open_status g.R.Rule g.L.Line site c.in_ok-stations.stations.now is_open in
    let known = c.in_ok-me.ensures in
    call-read g.R.Rule g.L.Line site c.in_ok-stations.stations.now is_open _ _ c.requires
    (tally-served R g.L.Line.most h c.args.station c.own_owed.result refl known.0
    (own-owed-is R h.site c.in_ok-me.me c.from.result c.args.station c.own_owed.result known.1 (c.from.ensures.0 ∙ known.1) c.own_owed.ensures))
