-- The bit of a number is its membership, and a number past the word is no member.
use Rattle.std.proofs.Common.{sym, ◌∙◌, arith}
use Rattle.std.proofs.lemmas.Bool.{le-ltb}
use Rattle.events.proofs.MemberLaws.{member-bit, member-past}
use Rattle.events.proofs.set.Set.has.Goals as goal

pub returns-then-number-WIDTH : goal.returns-then-number-WIDTH
returns-then-number-WIDTH g c = cc (member-bit c.widen-bits.result c.args.number)

pub returns-else-number-WIDTH : goal.returns-else-number-WIDTH
returns-else-number-WIDTH g c =
    le-ltb c.args.number c.WIDTH.result (omega arith)
    ∙ sym (member-past g.W.Word.WIDTH _ c.args.number c.widen-bits.ensures.below (omega arith))
