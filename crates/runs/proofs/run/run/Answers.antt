use Rattle.std.proofs.Common.{is_some, refl, ap}
use Rattle.protocol.specs.Promise.{Proper}
use Rattle.site.specs.Statuses.{status}
use Rattle.runs.proofs.Running.{promised}
use Rattle.runs.proofs.run.run.Goals as goal

pub returns-clause-promise : goal.returns-clause-promise
returns-clause-promise g c =
    let site = c.new-site.result in
    let law = g.met.R.Rule in
    let proper : Proper (g.R.Rule.meaning c.new-site.result.rule) = record { lawful = law.lawful site.rule; stations = (law.stationed site.rule).1; events = (law.sized site.rule).1 } in
    let made = c.new-site.ensures in
    promised g.R.Rule.meaning g.L.Line.waits g.L.Line.most c.args.rule site.rule c.args.line site.line (status g.L.Line c.new-site.result) _ _ _ made.rule made.line proper g.met.L.Line.enough (ap is_some made.closed) refl (g.met.L.Line.outside site.line) c.serve_all.ensures.promise
