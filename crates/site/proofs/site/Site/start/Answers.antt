-- No message waits, and the stations are fresh.
use Rattle.std.proofs.Common.{refl, sym}
use mathlib.Core.Path.{fun_ext}
use Rattle.site.specs.Statuses.{status}
use Rattle.site.proofs.LowestPairs.{none_found}
use Rattle.site.proofs.Serving.{started}
use Rattle.site.proofs.Stationing.{fresh-all}
use Rattle.site.proofs.site.Site.start.Goals as goal

pub returns : goal.returns
returns g c =
    let rule = c.args.self.now.rule in
    let h = status g.L.Line c.args.self.now in
    let still = none_found _ h.site.waits c.lowest_pair.result c.lowest_pair.ensures c.if-is_some-2.ensures in
    record {
      rule = refl;
      sound = c.requires;
      served = started (g.R.Rule.meaning c.args.self.now.rule) g.L.Line.most h _ (sym c.if-is_some.ensures) still refl (fun_ext (fresh-all (g.R.Rule.meaning rule) _ (g.met.R.Rule.owned rule) c.fresh_stations.ensures.long c.fresh_stations.ensures.each)) refl;
    }
