-- The number 0 has no digit 1.
use Rattle.std.proofs.Common.{arith}
use Rattle.events.proofs.MemberLaws.{member-past}
use Rattle.events.proofs.set.Set.empty.Goals as goal

pub returns : goal.returns
returns g c k = member-past 0 _ k (omega arith) (omega arith)
