-- The zeros below the lowest digit 1 count to its place.
use Rattle.std.proofs.Common.{arith}
use Rattle.events.proofs.MemberLaws.{member-past, member_below, lowest-member}
use Rattle.events.proofs.set.Set.lowest.Goals as goal

pub returns-then-bits-eq0 : goal.returns-then-bits-eq0
returns-then-bits-eq0 g c k = member-past 0 _ k (omega arith) (omega arith)

pub returns : goal.returns
returns g c =
    rw (← c.widen-bits.ensures.number)
    (let l = lowest-member 64 c.widen-bits.result (omega arith) (omega arith) in
    record { below = member_below g.W.Word.WIDTH c.widen-bits.result _ (omega arith) l.here; here = l.here; least = l.least })
