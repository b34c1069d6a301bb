-- What the lists of a site hold.
use Rattle.std.proofs.Common.{◌≡◌, ℕ, ◌<◌, ◌≤◌, Bool, true, false, ◌&&◌, eqb, ltb, [], is_some, None, Ok, Option, sym, refl, ap, ◌∙◌, ap₂, arith, MatchOption}
use Rattle.std.proofs.lemmas.Bool.{lt-ltb}
use Rattle.std.proofs.lemmas.Bool.Decides.{nat_tests}
use Rattle.events.proofs.MemberLaws.{same-members}
use Rattle.events.specs.Members.{member}
use Rattle.events.specs.Sets.{EventSet}
use Rattle.events.specs.declared.marks.Marks.{Marks}
use Rattle.protocol.proofs.EventSets.{set_same, sets_hold}
use Rattle.protocol.specs.EventSets.{is_enabled, is_owed, set_of}
use Rattle.protocol.specs.Served.{Served}
use Rattle.protocol.specs.Sites.{Site}
use Rattle.protocol.specs.Station.{owns}
use Rattle.protocol.specs.Turns.{Status, gathered, lowest_pair}
use Rattle.protocol.specs.declared.call.Call.TheVariants.{Tally, WorkList}
use Rattle.protocol.specs.declared.call.Reply.TheVariants.{Listed, Tallied}
use Rattle.rules.specs.Answers.{accepted}
use Rattle.rules.specs.Rule.{Lawful, Meaning}
use Rattle.tables.specs.Runs.{accepts}
use Rattle.site.proofs.LowestPairs.{none_found}
use Rattle.site.proofs.Serving.{does}

-- ---- sets of events

-- a set of the events below n that pass the test
set_is : (s : EventSet) (p : ℕ → Bool) (n : ℕ) → ((k : ℕ) → member s.bits k ≡ (ltb k n && p k)) → s ≡ set_of p n
set_is s p n h = ap {B = EventSet} (λ (b : ℕ). record { bits = b }) (same-members s.bits (set_of p n).bits (λ k. h k ∙ sym (sets_hold p n k)))

-- whether k is owed and an event of the rule
known-owed : (events count k : ℕ) (marked owed known common : Bool) → events ≤ 64 → count ≡ events → owed ≡ marked → known ≡ (ltb k count && ltb k 64) → common ≡ (owed && known) → common ≡ (ltb k events && marked)
known-owed events count k marked owed known common few p a b c = grind (arith, nat_tests)

-- markings that agree on the events of the rule
module _ (R : Meaning) (M N : ℕ → Marks) (agree : (k : ℕ) → k < R.events → M k ≡ N k) where
  -- enable the same of them
  pub enabled-is : Lawful R → (s : EventSet) → ((k : ℕ) → member s.bits k ≡ accepts R M k) → s ≡ set_of (is_enabled R N) R.events
  enabled-is laws s h =
      set_is s (is_enabled R M) R.events h
      ∙ set_same (is_enabled R M) (is_enabled R N) R.events
      (λ e l. ap accepted (laws.decides_by_locks e M N l (λ k t. agree k (laws.locks_events e k l t))))

  -- and have the same of them owed
  pub owed-is : (count : ℕ) (owed known common : EventSet) → R.events ≤ 64 → count ≡ R.events → ((k : ℕ) → member owed.bits k ≡ is_owed M k) → ((k : ℕ) → member known.bits k ≡ (ltb k count && ltb k 64)) → ((k : ℕ) → member common.bits k ≡ (member owed.bits k && member known.bits k)) → common ≡ set_of (is_owed N) R.events
  owed-is count owed known common few p a b c =
      set_is common (is_owed M) R.events (λ k. known-owed R.events count k (is_owed M k) _ _ _ few p (a k) (b k) (c k))
      ∙ set_same (is_owed M) (is_owed N) R.events (λ e l. ap (λ (m : Marks). m.pending && m.included) (agree e l))

known_twice : (known own owed : Bool) → ((known && own) && owed) ≡ (known && ((known && own) && owed))
known_twice true own owed = refl
known_twice false own owed = refl

-- the own owed events of the station s, whose number is read twice
pub own-owed-is : (R : Meaning) (S : Site) (me at s : ℕ) (own : EventSet) → me ≡ s → at ≡ s → ((k : ℕ) → member own.bits k ≡ (owns R me k && is_owed (S.station at).marks k)) → own ≡ set_of (λ e. owns R s e && is_owed (S.station s).marks e) R.events
own-owed-is R S me at s own p q h =
    set_is own (λ e. owns R s e && is_owed (S.station s).marks e) R.events
    (λ k. h k ∙ ap₂ (λ a b. owns R a k && is_owed (S.station b).marks k) p q ∙ known_twice (ltb k R.events) (eqb (R.owner k) s) (is_owed (S.station s).marks k))

-- ---- the calls

module _ (R : Meaning) (limit : ℕ) (h : Status) where
  pub list-served : {X : Type 0} (F : X → Type 0) (pair : Option X) (enabled owed : EventSet) → h.is_open ≡ true → MatchOption pair (lowest_pair h.site.waits ≡ None) F → false ≡ is_some pair → enabled ≡ set_of (is_enabled R (gathered R h.site)) R.events → owed ≡ set_of (is_owed (gathered R h.site)) R.events → Served R limit h WorkList (Ok (Listed enabled owed)) h
  list-served F pair enabled owed is_open found none p q =
      let e = none_found F h.site.waits pair found none in
      does R limit h h WorkList (Ok (Listed enabled owed)) [] (rw (is_open, e)) (ap₂ (λ a b. Ok (Listed a b)) p q, refl, refl)

  pub tally-served : (s : ℕ) (own : EventSet) → h.is_open ≡ true → s < R.stations → own ≡ set_of (λ e. owns R s e && is_owed (h.site.station s).marks e) R.events → Served R limit h (Tally s) (Ok (Tallied own)) h
  tally-served s own is_open l p =
      let t = lt-ltb s R.stations l in
      does R limit h h (Tally s) (Ok (Tallied own)) [] (rw (is_open, t)) (ap (λ a. Ok (Tallied a)) p, refl, refl)
