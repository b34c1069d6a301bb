use Rattle.std.proofs.Common.{◌<◌, length, ◌∙◌, subst, arith, length-take}
use Rattle.std.proofs.lemmas.List.{get_or-take}
use Rattle.protocol.specs.Promise.{Proper}
use Rattle.protocol.specs.Served.{Served}
use Rattle.protocol.specs.declared.call.Call.{Call}
use Rattle.site.specs.Statuses.{status}
use Rattle.runs.proofs.Running.{lasts-more, rest_more}
use Rattle.runs.proofs.run.serve_all.Goals as goal

pub loop-i-preserved : goal.loop-i-preserved
loop-i-preserved g c =
    let inv = c.loop-i.invariant in
    let s = c.serve.ensures in
    let r = c.args.site.now.rule in
    let law = g.met.R.Rule in
    let proper : Proper (g.R.Rule.meaning r) = record { lawful = law.lawful r; stations = (law.stationed r).1; events = (law.sized r).1 } in
    let l = length-take c.min-count.result c.args.calls.now in
    let few : c.loop-i.i < length c.args.calls.now = omega arith in
    let lt : c.loop-i.i < c.min-count.result = omega arith in
    let room : c.loop-i.i < length c.loop-i.outcomes = omega arith in
    let served = subst (λ (k : Call). Served (g.R.Rule.meaning c.loop-i.site.rule) g.L.Line.most (status g.L.Line c.loop-i.site) k c.serve.result (status g.L.Line c.serve.new.site)) (get_or-take c.min-count.result c.args.calls.now c.loop-i.i _ lt) s.served in (
      lasts-more g.R.Rule.meaning g.L.Line.most r c.loop-i.site.rule proper g.met.L.Line.enough _ _ _ c.args.calls.now c.loop-i.i _ c.loop-i.outcomes c.serve.result inv.0 inv.2 few room served,
      s.sound,
      s.rule ∙ inv.2,
      rest_more c.loop-i.outcomes c.args.outcomes.now c.loop-i.i c.serve.result inv.3,
    )
