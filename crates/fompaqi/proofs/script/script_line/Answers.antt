use Rattle.std.proofs.Common.{◌≡◌, Ok, Some, sym, ap, ◌∙◌, rules}
use Rattle.fompaqi.proofs.script.script_line.Goals as goal

pub returns-clause-exact : goal.returns-clause-exact
returns-clause-exact g c d fits e =
    let t : g.C.ScriptCall.fits c.in_ok-call.call × (c.args.line.part.bytes.now ≡ g.C.ScriptCall.written c.in_ok-call.call) = search rules in
    ap (λ x. Ok (Some x)) (g.met.C.ScriptCall.one _ d t.0 fits (sym t.1 ∙ e))
