-- Past the length of the word every digit is 0.
use Rattle.std.proofs.Common.{arith}
use Rattle.std.proofs.lemmas.Nat.{leading_length}
use Rattle.events.proofs.MemberLaws.{member-past}
use Rattle.events.proofs.set.end.Goals as goal

pub returns-clause-past : goal.returns-clause-past
returns-clause-past c k l =
    let n = leading_length 64 c.args.bits c.ranges.bits.fits in
    let e = n.1 in
    member-past n.0 c.args.bits k n.2 (omega arith)
