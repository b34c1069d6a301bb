-- The word without the digit of the number.
use Rattle.std.proofs.Common.{◌≡◌, ℕ, ◌-◌, ◌^◌, false, cond, arith}
use Rattle.std.proofs.lemmas.Bool.Decides.{nat_tests}
use lib.Bits.{and_le_l}
use Rattle.events.specs.Members.{member, named}
use Rattle.events.proofs.MemberLaws.{member-minus, without-less, without_fewer}
use Rattle.events.proofs.set.Set.without.Goals as goal

pub returns : goal.returns
returns g c =
    let w = g.W.Word.WIDTH in
    let n = g.W.Word.number c.args.self.bits in
    let left = g.W.Word.number c.narrow.result in
    let e = c.args.number in
    let members : (k : ℕ) → member left k ≡ cond (named w e k) false (member n k)
    = λ k. grind (arith, nat_tests, member-minus 64 c.widen.result c.bit.result k (omega arith) (omega arith), c.bit.ensures.members k) in
    record {
      members = members;
      less = without-less w n left e c.widen.ensures.below members (omega (arith, and_le_l c.widen.result (2 ^ 64 - 1 - c.bit.result)));
      fewer = without_fewer w n left e c.widen.ensures.below members;
    }
