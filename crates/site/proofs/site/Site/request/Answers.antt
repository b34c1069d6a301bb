-- The request is refused, opened, or finds no place for its ask.
use Rattle.std.proofs.lemmas.Result.{err_from_is_err_and}
use Rattle.site.proofs.Requesting.{request-full, request-opened, request-refused, request-stray}
use Rattle.site.proofs.Serving.{lent}
use Rattle.site.proofs.site.Site.request.Goals as goal

pub returns-in_err-me : goal.returns-in_err-me
returns-in_err-me g c =
    let p = err_from_is_err_and c.from_residual-in_err-me.result c.from_residual-in_err-me.ensures.1 in
    rw (p.1, p.2)
    (request-refused g.R.Rule g.L.Line c.args.self.now (lent c.as_mut.ensures.value c.in_ok-stations.ensures.ok_part) _ _ _ c.requires (c.in_err-me.ensures (g.L.Line.waits c.args.self.now.line)))

pub returns-in_err-out : goal.returns-in_err-out
returns-in_err-out g c =
    let p = err_from_is_err_and c.from_residual-in_err-out.result c.from_residual-in_err-out.ensures.1 in
    rw (p.1, p.2)
    (request-stray g.R.Rule g.L.Line c.args.self.now (lent c.as_mut.ensures.value c.in_ok-stations.ensures.ok_part) _ _ (c.in_ok-me.ensures (g.L.Line.waits c.args.self.now.line)) c.from-at.ensures.0 c.requires c.in_err-out.ensures.begins)

pub returns-in_err-send : goal.returns-in_err-send
returns-in_err-send g c =
    let p = err_from_is_err_and c.from_residual-in_err-send.result c.from_residual-in_err-send.ensures.1 in
    let sent = c.in_err-send.ensures in
    rw (p.1, p.2)
    (request-full g.R.Rule g.L.Line c.args.self.now (lent c.as_mut.ensures.value c.in_ok-stations.ensures.ok_part) _ _ (c.in_ok-me.ensures (g.L.Line.waits c.args.self.now.line)) c.from-at.ensures.0 c.in_ok-out.ensures.begins c.send.new.line sent.kept sent.answer sent.lists)

pub returns : goal.returns
returns g c =
    let sent = c.in_ok-send.ensures in
    request-opened g.R.Rule g.L.Line c.args.self.now (lent c.as_mut.ensures.value c.in_ok-stations.ensures.ok_part) _ _ (c.in_ok-me.ensures (g.L.Line.waits c.args.self.now.line)) c.from-at.ensures.0 c.in_ok-out.ensures.begins c.send.new.line sent.kept sent.lists
