-- The word with the digit of the number.
use Rattle.std.proofs.Common.{arith}
use Rattle.std.proofs.lemmas.Nat.{or_lt}
use Rattle.std.proofs.lemmas.Bool.Decides.{nat_tests}
use Rattle.events.proofs.MemberLaws.{member-or}
use Rattle.events.proofs.set.Set.with.Goals as goal

pub narrow-requires : goal.narrow-requires
narrow-requires g c = or_lt g.W.Word.WIDTH c.widen.result c.bit.result (omega arith) (omega arith)

pub returns : goal.returns
returns g c k = grind (arith, nat_tests, member-or c.widen.result c.bit.result k, c.bit.ensures.members k)
