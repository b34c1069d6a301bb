-- As many ones at the end as there are numbers below the count.
use Rattle.std.proofs.Common.{arith}
use Rattle.std.proofs.lemmas.Bool.Decides.{nat_tests}
use lib.Pow.{ones_lt}
use Rattle.std.proofs.Math.Pow.{pow_mono}
use Rattle.events.proofs.MemberLaws.{member-ones}
use Rattle.events.proofs.set.Set.first.Goals as goal

pub narrow-requires : goal.narrow-requires
narrow-requires g c = omega (arith, ones_lt c.min.result, pow_mono {i = c.min.result} {j = g.W.Word.WIDTH} (omega arith))

pub returns : goal.returns
returns g c k = grind (arith, nat_tests, member-ones c.min.result k)
