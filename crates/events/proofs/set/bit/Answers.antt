-- The word has one digit 1, or none.
use Rattle.std.proofs.Common.{◌<◌, arith}
use Rattle.std.proofs.lemmas.Nat.{one_shl}
use Rattle.std.proofs.lemmas.Bool.Decides.{nat_tests}
use lib.Pow.{pow-lt}
use Rattle.events.proofs.MemberLaws.{member-single, member-past}
use Rattle.events.proofs.set.bit.Goals as goal

pub returns-then-number-WIDTH-clause-members : goal.returns-then-number-WIDTH-clause-members
returns-then-number-WIDTH-clause-members g c k =
    let l = g.met.W.Word.width_law in
    let p = member-single 64 c.args.number k (omega arith) in
    grind (arith, nat_tests)

pub returns-then-number-WIDTH-clause-below : goal.returns-then-number-WIDTH-clause-below
returns-then-number-WIDTH-clause-below g c =
    let l = g.met.W.Word.width_law in
    let h : c.args.number < g.W.Word.WIDTH = omega arith in
    rw (one_shl c.args.number 64 (omega arith)) (pow-lt h)

pub returns-else-number-WIDTH-clause-members : goal.returns-else-number-WIDTH-clause-members
returns-else-number-WIDTH-clause-members g c k =
    let p = member-past 0 0 k (omega arith) (omega arith) in grind (arith, nat_tests)
