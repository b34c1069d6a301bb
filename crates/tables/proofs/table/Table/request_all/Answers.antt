-- Each request takes one step of the run.
use Rattle.std.proofs.Common.{ap, ◌∙◌}
use Rattle.events.specs.Marks.{marks}
use Rattle.tables.proofs.Running.{after-all, after_more}
use Rattle.tables.proofs.table.Table.request_all.Goals as goal

pub loop-event-preserved : goal.loop-event-preserved
loop-event-preserved g c =
    let R = g.R.Rule.meaning in
    let l = c.loop-event in (
      c.request.ensures.rule ∙ l.invariant.0,
      after_more (R c.args.self.now.rule) (marks l.self.marking) c.args.events.now l.event-index _ l.invariant.1 (R l.self.rule) (marks c.request.new.self.marking) (ap R l.invariant.0) c.loop-event-test.true c.request.ensures.marking,
    )

pub returns-clause-marking : goal.returns-clause-marking
returns-clause-marking g c k =
    let l = c.loop-event in
    ap (λ N. N k) (after-all (g.R.Rule.meaning c.args.self.now.rule) (marks l.self.marking) c.args.events.now l.event-index _ l.invariant.1 c.loop-event-test.false)
