-- A digit is 1 in `a | b` if it is 1 in either.
use Rattle.std.proofs.Common.{arith}
use Rattle.std.proofs.lemmas.Nat.{or_lt}
use Rattle.events.proofs.MemberLaws.{member-or}
use Rattle.events.proofs.set.Set.union.Goals as goal

pub narrow-requires : goal.narrow-requires
narrow-requires g c = or_lt g.W.Word.WIDTH c.widen.result c.widen-2.result (omega arith) (omega arith)

pub returns : goal.returns
returns g c k = cc (member-or c.widen.result c.widen-2.result k)
