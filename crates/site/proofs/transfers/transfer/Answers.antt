-- What became of the oldest message.
use Rattle.std.proofs.Common.{arith}
use Rattle.std.proofs.lemmas.Result.{err_from_is_err_and}
use Rattle.site.proofs.Transferring.{full, gone, says, strayed}
use Rattle.site.proofs.transfers.transfer.Goals as goal

pub returns-in_err-answer-clause-transferred : goal.returns-in_err-answer-clause-transferred
returns-in_err-answer-clause-transferred g c =
    let p = err_from_is_err_and c.from_residual.result c.from_residual.ensures.1 in
    rw p.1
    (strayed (g.R.Rule.meaning c.args.rule.now) g.L.Line.most (g.L.Line.waits c.args.line.now) (g.L.Line.waits c.take.new.self) c.args.stations.now c.into.ensures.0 c.into-2.ensures.0 c.in-Some.ensures.answer c.take.ensures.lists (says _ c.try_from.result c.try_from.ensures c.ok-note.ensures.value) c.from-at.ensures.0 c.in_err-answer.ensures.takes)

pub returns-in_err-send-clause-transferred : goal.returns-in_err-send-clause-transferred
returns-in_err-send-clause-transferred g c =
    let p = err_from_is_err_and c.from_residual-in_err-send.result c.from_residual-in_err-send.ensures.1 in
    rw p.1
    (full (g.R.Rule.meaning c.args.rule.now) g.L.Line.most (g.L.Line.waits c.args.line.now) (g.L.Line.waits c.take.new.self) c.args.stations.now c.into.ensures.0 c.into-2.ensures.0 c.in-Some.ensures.answer c.take.ensures.lists (says _ c.try_from.result c.try_from.ensures c.ok-note.ensures.value) c.from-at.ensures.0 c.in_ok-answer.ensures.takes (g.L.Line.waits c.send.new.line) c.in_err-send.ensures.answer c.in_err-send.ensures.lists)

pub returns-in-None-clause-transferred : goal.returns-in-None-clause-transferred
returns-in-None-clause-transferred g c =
    rw (← c.in-None.is)
    (gone (g.R.Rule.meaning c.args.rule.now) g.L.Line.most (g.L.Line.waits c.args.line.now) (g.L.Line.waits c.take.new.self) c.args.stations.now c.into.ensures.0 c.into-2.ensures.0 c.in-Some.ensures.answer c.take.ensures.lists (says _ c.try_from.result c.try_from.ensures c.ok-note.ensures.value) c.from-at.ensures.0 c.in_ok-answer.ensures.takes (g.L.Line.waits c.send.new.line) c.in_ok-send.ensures.answer c.in_ok-send.ensures.lists (omega (arith, c.told-stations)))

pub returns-in-Some-answer-clause-transferred : goal.returns-in-Some-answer-clause-transferred
returns-in-Some-answer-clause-transferred g c =
    rw (← c.in-Some-answer.is)
    (gone (g.R.Rule.meaning c.args.rule.now) g.L.Line.most (g.L.Line.waits c.args.line.now) (g.L.Line.waits c.take.new.self) c.args.stations.now c.into.ensures.0 c.into-2.ensures.0 c.in-Some.ensures.answer c.take.ensures.lists (says _ c.try_from.result c.try_from.ensures c.ok-note.ensures.value) c.from-at.ensures.0 c.in_ok-answer.ensures.takes (g.L.Line.waits c.send.new.line) c.in_ok-send.ensures.answer c.in_ok-send.ensures.lists (omega (arith, c.told-stations)))
