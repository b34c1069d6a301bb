use Rattle.std.proofs.Common.{[], ◌∷◌, ◌++◌, refl, sym, subst, ap, ◌∙◌, inr, append-nil, append_assoc}
use Rattle.lexer.specs.Lines.{lines}
use Rattle.fompaqi.specs.Scripts.{SiteFits, WritesCalls, site_line}
use Rattle.fompaqi.proofs.site_play.calls_of.Goals as goal

pub loop-line-preserved-in-Some-script_line-2 : goal.loop-line-preserved-in-Some-script_line-2
loop-line-preserved-in-Some-script_line-2 c rest w =
    let call = c.in-Ok-Some.call in
    let t = rw c.in-Ok-Some.field-0-is at c.in-Ok-Some.ensures.tells in
    let next : WritesCalls site_line SiteFits (lines c.loop-line.line-iterator.rest.bytes.now) (call ∷ rest) =
    subst (λ ls. WritesCalls site_line SiteFits ls (call ∷ rest)) (sym c.in-Some.ensures.steps.line) (inr (call, rest, t.0, t.1, refl, w)) in
    subst (WritesCalls site_line SiteFits (lines c.args.script.now))
    (sym (ap (λ l. l ++ rest) c.in_ok-push.ensures.items ∙ append_assoc c.loop-line.calls.items (call ∷ []) rest))
    (c.loop-line.invariant (call ∷ rest) next)

pub returns : goal.returns
returns c =
    let none : WritesCalls site_line SiteFits (lines c.loop-line.line-iterator.rest.bytes.now) [] =
    subst (λ ls. WritesCalls site_line SiteFits ls []) (sym c.in-None.ensures.steps.0) refl in
    subst (WritesCalls site_line SiteFits (lines c.args.script.now)) (append-nil c.loop-line.calls.items) (c.loop-line.invariant [] none)
