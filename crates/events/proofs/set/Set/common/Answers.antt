-- A digit is 1 in `a & b` if it is 1 in both.
use Rattle.events.proofs.MemberLaws.{member-and}
use Rattle.events.proofs.set.Set.common.Goals as goal

pub returns : goal.returns
returns g c k = cc (member-and c.widen.result c.widen-2.result k)
