use Rattle.lexer.specs.Lines.{lines}
use Rattle.fompaqi.specs.Scripts.{InOrder}
use Rattle.fompaqi.proofs.input.check_script.Given as goal

-- the whole script is in order if what is left of it is
abbrev pub invariant-loop-line : goal.invariant-loop-line
invariant-loop-line g l = InOrder g.C.ScriptCall.written g.C.ScriptCall.fits (lines l.line-iterator.rest.bytes.now) → InOrder g.C.ScriptCall.written g.C.ScriptCall.fits (lines l.script)
