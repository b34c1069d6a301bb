use Rattle.std.proofs.Common.{List, ◌++◌}
use Rattle.lexer.specs.Lines.{lines}
use Rattle.protocol.specs.declared.call.Call.{Call}
use Rattle.fompaqi.specs.Scripts.{SiteFits, WritesCalls, site_line}
use Rattle.fompaqi.proofs.site_play.calls_of.Given as goal

-- the calls so far and those of the lines that are left are those of the script
abbrev pub invariant-loop-line : goal.invariant-loop-line
invariant-loop-line l =
    (rest : List Call) → WritesCalls site_line SiteFits (lines l.line-iterator.rest.bytes.now) rest → WritesCalls site_line SiteFits (lines l.script) (l.calls.items ++ rest)
