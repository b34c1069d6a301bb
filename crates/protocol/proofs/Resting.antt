-- A moment at which no message waits.
use Rattle.std.proofs.Common.{◌≡◌, ℕ, ◌<◌, Bool, true, false, cond, ◌&&◌, None, refl, ap, subst, ap₂, arith, Ok}
use Rattle.std.proofs.lemmas.Bool.Decides.{nat_tests}
use Rattle.events.specs.declared.marks.Marks.{Marks}
use Rattle.events.specs.Marks.{unmarked}
use Rattle.rules.specs.Answers.{accepted}
use Rattle.rules.specs.Rule.{Meaning}
use Rattle.protocol.specs.declared.call.Reply.TheVariants.{Listed, Tallied}
use Rattle.protocol.specs.Station.{owns}
use Rattle.protocol.specs.Costs.{costs}
use Rattle.protocol.specs.EventSets.{is_enabled, is_owed}
use Rattle.protocol.specs.Machine.{listed, tallied}
use Rattle.protocol.specs.Turns.{gathered}
use Rattle.protocol.specs.Promise.{Still, Moment, AtRest, Proper}
use Rattle.protocol.proofs.Whole.{Rests}
use Rattle.protocol.proofs.OneTable.{same_asked, rests}
use Rattle.protocol.proofs.EventSets.{set_same}
use Rattle.protocol.proofs.Moments.{both_of, Coherent}

module _ (R : Meaning) (P : Proper R) (m : Moment) (G : Coherent R m) (still : Still m.site) where
  rested : Rests R (both_of R m)
  rested = rests R P.lawful P.stations (both_of R m) G.in_step (λ a b _ _. still a b)

  cut_by : (s e : ℕ) (t : Bool) → owns R s e ≡ t → (m.site.station s).marks e ≡ cond t (m.machine.marking e) unmarked
  cut_by s e true h =
      let l : e < R.events = grind (arith, nat_tests) in
      let o : R.owner e ≡ s = grind (arith, nat_tests) in
      subst (λ (u : ℕ). (m.site.station u).marks e ≡ m.machine.marking e) o (rested.marks e l)
  cut_by s e false h = (G.own s e h).0

  free-by : (s e : ℕ) (t : Bool) → owns R s e ≡ t → (m.site.station s).holder e ≡ None
  free-by s e true h =
      let o : R.owner e ≡ s = grind (arith, nat_tests) in
      subst (λ (u : ℕ). (m.site.station u).holder e ≡ None) o (rested.free e)
  free-by s e false h = (G.own s e h).1

  pub at_rest : AtRest R m
  at_rest = record {
    no_request = rested.no_request;
    none_asked = λ s. let h = same_asked R P.lawful P.stations (both_of R m) G.in_step s in let i = rested.no_request s in grind arith;
    no_lock = λ s e. free-by s e (owns R s e) refl;
    cut = λ s e. cut_by s e (owns R s e) refl;
  }

  pub carried-cost : m.carried ≡ costs R m.answers
  carried-cost = rested.counted

  -- ---- lists

  same-marks : (e : ℕ) → e < R.events → gathered R m.site e ≡ m.machine.marking e
  same-marks e l = rested.marks e l

  pub same-list : listed R (gathered R m.site) ≡ listed R m.machine.marking
  same-list =
      let M : ℕ → Marks = gathered R m.site in
      let N : ℕ → Marks = m.machine.marking in
      ap₂ (λ x y. Ok (Listed x y))
      (set_same (is_enabled R M) (is_enabled R N) R.events (λ e l. ap accepted (P.lawful.decides_by_locks e M N l (λ f k. same-marks f (P.lawful.locks_events e f l k)))))
      (set_same (is_owed M) (is_owed N) R.events (λ e l. ap (λ (x : Marks). x.pending && x.included) (same-marks e l)))

  tally-at : (s e : ℕ) (t : Bool) → owns R s e ≡ t → (t && is_owed (m.site.station s).marks e) ≡ (t && is_owed m.machine.marking e)
  tally-at s e true h = ap (λ (x : Marks). x.pending && x.included) (cut_by s e true h)
  tally-at s e false h = refl

  pub same-tally : (s : ℕ) → tallied R (m.site.station s).marks s ≡ tallied R m.machine.marking s
  same-tally s =
      ap (λ x. Ok (Tallied x)) (set_same (λ e. owns R s e && is_owed (m.site.station s).marks e) (λ e. owns R s e && is_owed m.machine.marking e) R.events
      (λ e _. tally-at s e (owns R s e) refl))
