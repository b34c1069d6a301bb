-- The marks of the own events are those of the start, and all else is blank.
use Rattle.std.proofs.Common.{◌≡◌, ℕ, cond, ap, ◌∙◌, ap₂}
use mathlib.Core.Path.{fun_ext}
use Rattle.events.specs.Marks.{marks, unmarked}
use Rattle.protocol.specs.Station.{Station, owns}
use Rattle.stations.proofs.LockTables.{none_in}
use Rattle.stations.proofs.station.Station.fresh.Goals as goal

pub returns : goal.returns
returns g c =
    let R = g.R.Rule.meaning c.args.role.now.rule.now in
    let own : marks c.restricted-station.result ≡ (λ k. cond (owns R c.args.role.now.me k) (R.start k) unmarked) =
    fun_ext (λ k. c.restricted-station.ensures k ∙ ap₂ (λ b x. cond b x unmarked) (c.events.ensures k) (c.start.ensures k)) in
    let rest = c.blank-station.ensures in
    let waits = ap (λ (S : Station). S.waiting) rest ∙ fun_ext (λ (f : ℕ). fun_ext none_in) in
    λ i. record { marks = own i; request = (rest i).request; holder = (rest i).holder; waiting = waits i }
