use Rattle.std.proofs.Common.{◌≡◌, ◌++◌}
use Rattle.std.specs.List.{flat_map}
use Rattle.std.specs.Fmt.{HasWritten, IsPlainFormatter}
use Rattle.reports.specs.Texts.{members_below, number_text}
use Rattle.reports.proofs.event_list.ShownEventSetDisplay.fmt.Given as goal

-- what has been written and the members that are left are those of the set
abbrev pub invariant-loop-event : goal.invariant-loop-event
invariant-loop-event g l =
    (members_below l.self.0 64 ≡ l.yielded ++ members_below l.event-iterator.rest 64)
    × (IsPlainFormatter l.fn.f → HasWritten g.W.Write.write_str_gives l.fn.f (flat_map number_text l.yielded) l.f)
