use Rattle.std.proofs.Common.{◌<◌, length, refl, ap, ◌∙◌, arith, length-take-le}
use Rattle.std.proofs.lemmas.List.{get_or-take}
use Rattle.lines.specs.Plays.{answers, lists, served, told}
use Rattle.lines.specs.declared.play.LineCall.{LineCall}
use Rattle.lines.specs.declared.play.LineCall.TheVariants.{Post}
use Rattle.lines.proofs.Queueing.{answers-turn, lists-turn, rest-turn}
use Rattle.lines.proofs.play.play.Goals as goal

pub loop-i-init : goal.loop-i-init
unfolding answers lists
loop-i-init g c = (c.requires, refl, refl, refl)

pub loop-i-preserved : goal.loop-i-preserved
loop-i-preserved g c =
    let W = g.L.Line.waits c.args.line.now in
    let V = g.L.Line.waits c.loop-i.line in
    let i = c.loop-i.i in
    let calls = c.args.calls.now in
    let none : LineCall = Post 0 0 record { kind = 0; event = 0; extra = 0 } in
    let some = length-take-le c.min-count.result calls (omega arith) in
    let met : c.loop-i.i < c.min-count.result = omega arith in
    let few : c.loop-i.i < length c.args.calls.now = omega arith in
    let room : c.loop-i.i < length c.loop-i.places = omega arith in
    let inv = c.loop-i.invariant in
    let made = c.serve.ensures in
    let same = get_or-take c.min-count.result calls i none met in (
      made.sound,
      lists-turn g.L.Line.most W V calls i none few inv.1 (g.L.Line.waits c.serve.new.line) (λ a b. made.lists a b ∙ ap (λ call. served g.L.Line.most V call a b) same),
      answers-turn g.L.Line.most W V calls i none few inv.1 c.loop-i.places c.serve.result room inv.2 (made.answer ∙ ap (told g.L.Line.most V) same),
      rest-turn c.loop-i.places c.args.places.now i c.serve.result inv.3,
    )
