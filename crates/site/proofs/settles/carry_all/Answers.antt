-- A message more, or the end.
use Rattle.std.proofs.Common.{◌≡◌, Ok, ◌∙◌, sym, subst}
use Rattle.site.specs.Statuses.{site_of}
use Rattle.site.specs.Transfers.{Transferred}
use Rattle.site.specs.declared.site.CarryAnswer.{CarryAnswer}
use Rattle.site.proofs.Settling.{answering-on, carry-ends, carrying-on}
use Rattle.site.proofs.settles.carry_all.Goals as goal
use Rattle.site.proofs.settles.carry_all.Goals.{in-Answered, in-Carried}

pub loop-messages-preserved : goal.loop-messages-preserved
loop-messages-preserved g c =
    let R = g.R.Rule.meaning c.args.rule.now in
    let T = site_of (g.L.Line.waits c.loop-messages.line) c.loop-messages.stations in
    let U = site_of (g.L.Line.waits c.transfer.new.line) c.transfer.new.stations in
    let inv = c.loop-messages.invariant in
    let low = c.in-Some.ensures in
    let at = λ (x : CarryAnswer) (e : c.in_ok-transfer.field-0 ≡ x). subst (λ y. Transferred R g.L.Line.most T c.in-Some.pair.from c.in-Some.pair.to (Ok y) U) e c.in_ok-transfer.ensures.transferred in (
      elim c.match-branch-2.branch [
        | in-Carried w ↦ rw (w.table-is, w.answers-is) (carrying-on R _ _ _ _ _ _ T inv.0 _ _ low.0 low.1 U (at _ w.in-Carried.is))
        | in-Answered w ↦ rw (w.table-is, w.answers-is) (answering-on R _ _ _ _ _ _ T inv.0 _ _ low.0 low.1 U _ (at _ w.in-Answered.is) w.if-answers-lt8.true c.requires.0)
      ],
      c.transfer.ensures.sound,
    )

pub returns-in_default-2-clause-settles : goal.returns-in_default-2-clause-settles
returns-in_default-2-clause-settles g c =
    let low = c.in-Some.ensures in
    carry-ends _ _ _ _ _ _ _ _ c.loop-messages.invariant.0 _ _ low.0 low.1 _ _ c.in_ok-transfer.ensures.transferred c.in_default-2.not-Carried (λ v e. c.if-answers-lt8.false) (record {})

pub returns-in_default-2-2-clause-settles : goal.returns-in_default-2-2-clause-settles
returns-in_default-2-2-clause-settles g c =
    let low = c.in-Some.ensures in
    carry-ends _ _ _ _ _ _ _ _ c.loop-messages.invariant.0 _ _ low.0 low.1 _ _ c.in_ok-transfer.ensures.transferred c.in_default-2.not-Carried (λ v e. let z = sym c.in_default-2.is ∙ e in (cc)) (record {})
