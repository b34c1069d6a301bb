-- A digit is 1 in `a & !b` if it is 1 in `a` alone.
use Rattle.std.proofs.Common.{arith}
use Rattle.events.proofs.MemberLaws.{member-minus}
use Rattle.events.proofs.set.Set.minus.Goals as goal

pub returns : goal.returns
returns g c k = cc (member-minus 64 c.widen.result c.widen-2.result k (omega arith) (omega arith))
