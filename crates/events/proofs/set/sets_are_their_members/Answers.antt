-- The laws of members, at the words of sets.
use Rattle.events.proofs.MemberLaws.{same-members, member_below}
use Rattle.events.proofs.set.sets_are_their_members.Goals as goal

pub returns : goal.returns
returns g c =
    record {
      same = λ a b e i. record { bits = g.met.W.Word.number_law a.bits b.bits (same-members _ _ e) i };
      below = λ a k. member_below _ _ k;
    }
