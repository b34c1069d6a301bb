use Rattle.std.proofs.Common.{map, take}
use Rattle.std.specs.Fmt.{HasWritten, IsPlainFormatter}
use Rattle.fompaqi.specs.Shown.{shown_byte}
use Rattle.fompaqi.proofs.shown.ShownLineDisplay.fmt.Given as goal

-- what has been written shows the bytes so far
abbrev pub invariant-loop-byte : goal.invariant-loop-byte
invariant-loop-byte g l = IsPlainFormatter l.fn.f → HasWritten g.W.Write.write_str_gives l.fn.f (map shown_byte (take l.byte-index l.first)) l.f
