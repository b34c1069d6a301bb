-- No event has a mark, and every record is free.
use Rattle.std.proofs.Common.{◌≡◌, ℕ, None, sym, refl, ◌∙◌}
use mathlib.Core.Path.{fun_ext}
use Rattle.events.specs.Marks.{marks, unmarked}
use Rattle.protocol.specs.Station.{resting}
use Rattle.stations.proofs.LockTables.{none-held, none_in, none-waits}
use Rattle.stations.specs.Shows.{blank}
use Rattle.stations.specs.declared.station.Lock.{Lock}
use Rattle.stations.proofs.station.Station.blank.Goals as goal

blank-marks : (k : ℕ) → marks blank.marking k ≡ unmarked
blank-marks k = λ i. record { executed = none_in k i; pending = none_in k i; included = none_in k i }

pub returns : goal.returns
returns c =
    let free : Lock = record { holder = None; waiting = c.empty.result } in
    let none : marks c.blank.result ≡ marks blank.marking = fun_ext (λ k. c.blank.ensures k ∙ sym (blank-marks k)) in
    let waits = none-waits 64 free c.empty.ensures ∙ fun_ext (λ (f : ℕ). fun_ext (λ w. sym (none_in w))) in
    λ i. record { marks = none i; request = resting; holder = none-held 64 free refl i; waiting = waits i }
