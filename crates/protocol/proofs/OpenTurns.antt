-- A call of an open site.
use Rattle.std.proofs.Common.{◌≡◌, ℕ, ◌+◌, ◌<◌, ◌≤◌, Bool, true, false, not, ◌&&◌, eqb, ltb, List, [], ◌∷◌, ◌++◌, length, is_some, Some, None, Option, sym, refl, ap, ◌∙◌, subst, inl, inr, append-nil, arith, Ok, Err}
use Rattle.std.proofs.lemmas.Bool.Decides.{nat_tests}
use Rattle.std.proofs.lemmas.Bool.{cases_lt, ltb-true, eqb-true}
use Rattle.rules.specs.Rule.{Meaning}
use Rattle.rules.specs.Semantics.{lowest}
use Rattle.rules.specs.Lowest.{Tells, lowest-tells}
use Rattle.protocol.specs.declared.answer.Answer.{Answer}
use Rattle.protocol.specs.declared.call.Call.{Call}
use Rattle.protocol.specs.declared.call.Call.TheVariants.{Start, Request, Carry, Settle, WorkList, Tally}
use Rattle.protocol.specs.Outcomes.{Outcome, entries}
use Rattle.protocol.specs.declared.answer.Answers.{Answers}
use Rattle.protocol.specs.declared.call.Reply.TheVariants.{Opened, Nothing, Carried, Answered, Settled}
use Rattle.protocol.specs.declared.refusal.Refusal.{Refusal}
use Rattle.protocol.specs.declared.refusal.Refusal.TheVariants.{UnknownStation, UnknownEvent, OtherOwner, RequestOpen, MessageWaits, WrongState, Stray, ShortTable}
use Rattle.std.specs.List.{AllByRecursion}
use Rattle.protocol.specs.Station.{concerned, is_resting, begins}
use Rattle.protocol.specs.Sites.{Site, moved}
use Rattle.protocol.specs.Costs.{costs}
use Rattle.protocol.specs.Machine.{Machine, unless, refuses_request, requests, requested, Gives, gave, answers_of, Says, hears, listed, tallied}
use Rattle.protocol.specs.Turns.{Status, Transfer, opened, waiting, goes, Carries, Chain, one_answer, answers_in, carry_outcome, gathered, asking, Obeys, Serves}
use Rattle.protocol.specs.Served.{Fails}
use Rattle.protocol.specs.Promise.{Still, Moment, later, after_each, ListsAt, Proper}
use Rattle.protocol.specs.Play.{turn_of}
use Rattle.protocol.proofs.Totals.{total-most, count-few}
use Rattle.protocol.proofs.Whole.{Both, open_cost, due}
use Rattle.protocol.proofs.Locking.{idle, is_settling}
use Rattle.protocol.proofs.Counts.{row, underway_count, open_of, lefts-works}
use Rattle.protocol.proofs.Pairs.{none-waits, still-none}
use Rattle.protocol.proofs.Requesting.{alike, idle-since, begin-room, begin}
use Rattle.protocol.proofs.OneTable.{dues, agrees, none_left, open-few}
use Rattle.protocol.proofs.OwnOnly.{own-begins, own-moved}
use Rattle.protocol.proofs.Moments.{both_of, Coherent, same_step, Advances, never_stuck, carried-well, ended, chain-well}
use Rattle.protocol.proofs.Resting.{same-list, same-tally}
use Rattle.protocol.proofs.Turning.{Turned, Brief, brief-turn, still-turn, placed}

which : (b1 b2 b3 b4 : Bool) (x : Refusal) →
    unless b1 UnknownStation (unless b2 UnknownEvent (unless b3 OtherOwner (unless b4 RequestOpen None))) ≡ Some x → x ≡ Stray → ⊥
which b1 b2 b3 b4 x h e = grind arith

passed : (b1 b2 b3 b4 : Bool) →
    unless b1 UnknownStation (unless b2 UnknownEvent (unless b3 OtherOwner (unless b4 RequestOpen None))) ≡ None →
    (b1 ≡ true) × (b2 ≡ true) × (b3 ≡ true) × (b4 ≡ true)
passed b1 b2 b3 b4 h = (grind arith, grind arith, grind arith, grind arith)

-- a moment later, with no answer and no message more
abbrev unmoved : Moment → Site → Machine → Moment
unmoved m S k = record { site = S; machine = k; answers = m.answers ++ []; carried = m.carried + length {A = Transfer} [] }

module _ (R : Meaning) (P : Proper R) (limit : ℕ) (enough : 3 ≤ limit) (m : Moment) (G : Coherent R m) where
  abbrev here : Status
  here = opened m.site

  abbrev B : Both
  B = both_of R m

  -- nothing has changed
  same : (k : Machine) → k ≡ m.machine → Coherent R (unmoved m m.site k)
  same k e = record {
    in_step = same_step R B (both_of R (unmoved m m.site k)) G.in_step e refl refl refl (omega arith) (ap (costs R) (append-nil m.answers));
    own = G.own;
  }

  -- a call that leaves all as it was
  pub unchanged : (c : Call) (r : Outcome) → Brief r → hears R m.machine c r ≡ m.machine → answers_of r ≡ [] →
      Says R (Some m.machine) c r → ListsAt R (Some m) (turn_of c r [] here) → Turned R (Some m) (turn_of c r [] here)
  unchanged c r b k a s l =
      still-turn R (Some m) c r here b (
        refl,
        refl,
        subst
            (λ (v : List Answer). Coherent R (record { site = m.site; machine = hears R m.machine c r; answers = m.answers ++ v; carried = m.carried + length {A = Transfer} [] }))
            (sym a) (same (hears R m.machine c r) k),
      )
      s l

  -- ---- a request

  module _ (s e : ℕ) where
    begins-well : e < R.events → R.owner e ≡ s → G.in_step.locking.phase s ≡ idle → (x : Option ℕ) → Tells (R.locks e) R.events x →
        (goes limit m.site.waits s (begins R (m.site.station s) e x) ≡ true) ×
        Coherent R (unmoved m (moved m.site m.site.waits s (begins R (m.site.station s) e x)) (requests m.machine s e None))
    begins-well lt ow at None t = let z = t e lt in let y = P.lawful.locks_itself e lt in absurd (grind arith)
    begins-well lt ow at (Some g) t =
        let S : Site = moved m.site m.site.waits s (begins R (m.site.station s) e (Some g)) in
        let r = begin-room R P.lawful P.stations limit enough B G.in_step s e lt ow at g t in
        let k = begin R P.lawful P.stations limit enough B G.in_step s e lt ow at (Some g) t in (
          r,
          record {
            in_step =
                (let k2 = rw r at k in same_step R _ (both_of R (unmoved m S (requests m.machine s e None))) k2 refl refl refl refl (omega arith) (ap (costs R) (append-nil m.answers)));
            own =
                own-moved R m.site m.site.waits s (begins R (m.site.station s) e (Some g)) G.own
                (own-begins R s (m.site.station s) (G.own s) e (Some g));
          },
        )

    asks-well : refuses_request R m.machine s e ≡ None →
        (goes limit m.site.waits s (asking R m.site s e) ≡ true) ×
        Coherent R (unmoved m (moved m.site m.site.waits s (asking R m.site s e)) (requests m.machine s e None))
    asks-well h =
        let p = passed (ltb s R.stations) (ltb e R.events) (eqb (R.owner e) s) (not (is_some (m.machine.asked s))) h in
        let al = alike R P.lawful P.stations limit enough B G.in_step s e in
        let at =
        idle-since R P.lawful P.stations limit enough B G.in_step s e (G.in_step.locking.phase s)
        (sym (ap is_resting (G.in_step.shown.requests s)) ∙ al ∙ p.3) in
        begins-well (ltb-true e R.events p.1) (eqb-true (R.owner e) s p.2) at (lowest (R.locks e) R.events)
        (lowest-tells (R.locks e) R.events)

    request-turn : (o : Outcome) (xs : List Transfer) (g : Status) (x : Option Refusal) → refuses_request R m.machine s e ≡ x →
        Obeys R limit here (turn_of (Request s e) o xs g) x → Turned R (Some m) (turn_of (Request s e) o xs g)
    request-turn o xs g (Some n) h b = placed R (Some m) (Request s e) b
        (unchanged (Request s e) (Err n) (which (ltb s R.stations) (ltb e R.events) (eqb (R.owner e) s) (not (is_some (m.machine.asked s))) n h) (ap (requests m.machine s e) h) refl (sym (ap requested h)) tt)
    request-turn o xs g None h b =
        let S : Site = moved m.site m.site.waits s (asking R m.site s e) in
        placed R (Some m) (Request s e) b
        (still-turn R (Some m) (Request s e) (Ok Opened) (opened S) tt
        (refl, refl, subst (λ (x : Option Refusal). Coherent R (unmoved m S (requests m.machine s e x))) (sym h) (asks-well h).1)
        (sym (ap requested h)) tt)

    -- what the station says of its request, the machine says too
    abbrev refused_by : Bool → Option Refusal
    refused_by free =
        unless (ltb s R.stations) UnknownStation
        (unless (ltb e R.events) UnknownEvent (unless (eqb (R.owner e) s) OtherOwner (unless free RequestOpen None)))

    refuses-alike : refused_by (is_resting (m.site.station s).request) ≡ refuses_request R m.machine s e
    refuses-alike = ap refused_by (alike R P.lawful P.stations limit enough B G.in_step s e)

  -- ---- a carry

  module _ (a b : ℕ) where
    one-transfer : (o : Option Answer) (S : Site) → Carries R limit m.site (record { from = a; to = b; answer = o; site = S }) →
        Turned R (Some m) (turn_of (Carry a b) (carry_outcome o) (record { from = a; to = b; answer = o; site = S } ∷ []) (opened S))
    one-transfer o S c = go o (carried-well R P limit enough m G (record { from = a; to = b; answer = o; site = S }) c)
      where
        go : (o : Option Answer) → Advances R m (later R m (record { from = a; to = b; answer = o; site = S })) (one_answer o) →
            Turned R (Some m) (turn_of (Carry a b) (carry_outcome o) (record { from = a; to = b; answer = o; site = S } ∷ []) (opened S))
        go None h = brief-turn R (Some m) (Carry a b) (Ok Carried) (record { from = a; to = b; answer = None; site = S } ∷ []) (opened S) tt (omega arith)
            (refl, refl, subst (λ (n : ℕ). Coherent R (record { site = S; machine = m.machine; answers = m.answers ++ []; carried = n })) (omega arith) h.coherent)
            tt (h.coherent, tt) tt
        go (Some v) h =
            brief-turn R (Some m) (Carry a b) (Ok (Answered v)) (record { from = a; to = b; answer = Some v; site = S } ∷ []) (opened S) tt (omega arith)
            (refl, refl, subst (λ (n : ℕ). Coherent R (record { site = S; machine = gave R m.machine (v ∷ []); answers = m.answers ++ (v ∷ []); carried = n })) (omega arith) h.coherent)
            h.gives (h.coherent, tt) tt

    carry-turn : (o : Outcome) (xs : List Transfer) (g : Status) (t : Bool) →
        Obeys R limit here (turn_of (Carry a b) o xs g) (unless t UnknownStation None) → Turned R (Some m) (turn_of (Carry a b) o xs g)
    carry-turn o xs g false d = placed R (Some m) (Carry a b) d (unchanged (Carry a b) (Err UnknownStation) (λ e. grind arith) refl refl tt tt)
    carry-turn o xs g true d = elim d [
      | inl n ↦ placed R (Some m) (Carry a b) (n.1, n.2, n.3) (unchanged (Carry a b) (Ok Nothing) tt refl refl tt tt)
      | inr c ↦ placed R (Some m) (Carry a b) (c.3, c.4, c.5) (one-transfer c.0 c.1 c.2)
    ]

  -- ---- a settle

  underway-few : underway_count R G.in_step.locking ≤ 64
  underway-few =
      let eight = P.stations in
      let f =
      total-most (row R G.in_step.locking) 8 R.stations
      (λ a. let t = count-few (λ b. is_settling (G.in_step.locking.underway a b)) R.stations in omega arith) in
      omega arith

  cost-few : (x : Option ℕ) → open_cost R x ≤ 136
  cost-few None = omega arith
  cost-few (Some e) =
      let eight = P.stations in let most = P.events in
      let l = count-few (R.locks e) R.events in let c = count-few (concerned R e) R.stations in omega arith

  due-few : due R B ≤ m.carried + 1152
  due-few =
      let eight = P.stations in
      let d = dues R P.lawful P.stations B G.in_step in
      let f = underway-few in
      let w = lefts-works R P.lawful G.in_step.locking m.machine.marking G.in_step.invariant in
      let c =
      total-most (λ s. open_cost R (open_of (G.in_step.locking.phase s))) 136 R.stations
      (λ s. cost-few (open_of (G.in_step.locking.phase s))) in
      omega arith

  module _ (xs : List Transfer) (S : Site) (c : Chain R limit m.site xs S) where
    abbrev last : Moment
    last = ended R P limit enough m xs S

    reached : AllByRecursion (Coherent R) (after_each R m xs) × Advances R m last (answers_in xs)
    reached = chain-well R P limit enough m G xs S c

    pub few-answers : length (answers_in xs) ≤ 8
    few-answers = let eight = P.stations in let o = reached.1.opens in let k = open-few R B in omega arith

    pub all-taken : waiting S ≡ false → Still S
    all-taken w = none_left R P.lawful P.stations (both_of R last) reached.1.coherent.in_step
        (λ a b la lb. let eight = P.stations in none-waits S w a b (omega arith) (omega arith))

    pub not-long : 1152 < length xs → ⊥
    not-long l =
        let d = due-few in
        let e = reached.1.dues in
        let a = (agrees R P.lawful P.stations (both_of R last) reached.1.coherent.in_step limit enough).within in
        omega arith

    settled-turn : (n : ℕ) (answers : Answers) → waiting S ≡ false → entries answers ≡ answers_in xs →
        Turned R (Some m) (turn_of (Settle n) (Ok (Settled answers (length xs))) xs (opened S))
    settled-turn n answers w e = record {
      sound =
          (refl, refl, subst (λ (v : List Answer). Coherent R (record { site = S; machine = gave R m.machine v; answers = m.answers ++ v; carried = m.carried + length xs })) (sym e) reached.1.coherent);
      says = subst (Gives R m.machine) (sym e) reached.1.gives;
      never_stray = λ e. grind arith;
      few = rw e few-answers;
      short = elim (cases_lt 1152 (length xs)) [ inl l ↦ absurd (not-long l) | inr l ↦ l ];
      ends = λ _ _ _. all-taken w;
      within = reached.0;
      lists = tt;
    }

  settle-turn : (n : ℕ) (o : Outcome) (xs : List Transfer) (g : Status) (t : Bool) →
      Obeys R limit here (turn_of (Settle n) o xs g) (unless t ShortTable None) → Turned R (Some m) (turn_of (Settle n) o xs g)
  settle-turn n o xs g false d = placed R (Some m) (Settle n) d (unchanged (Settle n) (Err ShortTable) (λ e. grind arith) refl refl tt tt)
  settle-turn n o xs g true d = placed R (Some m) (Settle n) (d.5, refl, d.3) (settled-turn xs d.0 d.1 n d.4 d.2 d.6)

  -- ---- a work list and a tally

  list-turn : (o : Outcome) (xs : List Transfer) (g : Status) (t : Bool) → (not (waiting m.site) ≡ t) →
      Obeys R limit here (turn_of WorkList o xs g) (unless t MessageWaits None) → Turned R (Some m) (turn_of WorkList o xs g)
  list-turn o xs g false w d =
      placed R (Some m) WorkList d
      (unchanged WorkList (Err MessageWaits) (λ e. grind arith) refl refl refl (λ still. let z = still-none m.site still in absurd (grind arith)))
  list-turn o xs g true w d =
      placed R (Some m) WorkList d (unchanged WorkList (listed R (gathered R m.site)) tt refl refl refl (same-list R P m G))

  tally-turn : (s : ℕ) (o : Outcome) (xs : List Transfer) (g : Status) (t : Bool) → ltb s R.stations ≡ t →
      Obeys R limit here (turn_of (Tally s) o xs g) (unless t UnknownStation None) → Turned R (Some m) (turn_of (Tally s) o xs g)
  tally-turn s o xs g false w d =
      placed R (Some m) (Tally s) d
      (unchanged (Tally s) (Err UnknownStation) (λ e. grind arith) refl refl refl (λ still l. absurd (grind (arith, nat_tests))))
  tally-turn s o xs g true w d =
      placed R (Some m) (Tally s) d
      (unchanged (Tally s) (tallied R (m.site.station s).marks s) tt refl refl refl (λ still l. same-tally R P m G still s))

  pub open_turn : (c : Call) (o : Outcome) (xs : List Transfer) (g : Status) → Serves R limit here (turn_of c o xs g) →
      Turned R (Some m) (turn_of c o xs g)
  open_turn Start o xs g d = placed R (Some m) Start d (unchanged Start (Err WrongState) (λ e. grind arith) refl refl refl tt)
  open_turn (Request s e) o xs g d =
      request-turn s e o xs g (refuses_request R m.machine s e) refl
      (subst (Obeys R limit here (turn_of (Request s e) o xs g)) (refuses-alike s e) d)
  open_turn (Carry a b) o xs g d = carry-turn a b o xs g (ltb a R.stations && ltb b R.stations) d
  open_turn (Settle n) o xs g d = settle-turn n o xs g (ltb 7 n) d
  open_turn WorkList o xs g d = list-turn o xs g (not (waiting m.site)) refl d
  open_turn (Tally s) o xs g d = tally-turn s o xs g (ltb s R.stations) refl d

  -- ---- what never happens

  pub never-fails-open : (c : Call) (g : Status) → Fails R limit here c g → ⊥
  never-fails-open (Request s e) g f = let z = (asks-well s e (sym (refuses-alike s e) ∙ f.0)).0 in let y = f.1 in grind arith
  never-fails-open (Carry a b) g f = never_stuck R P limit enough m G a b f.1 f.2
  never-fails-open (Settle n) g f = elim f.5 [
    | inl k ↦ never_stuck R P limit enough (last f.1 f.2 f.4) (reached f.1 f.2 f.4).1.coherent k.0 k.1 f.3 k.4
    | inr k ↦ elim k.0 [
      | inl l ↦ not-long f.1 f.2 f.4 l
      | inr l ↦ (let z = few-answers f.1 f.2 f.4 in omega arith)
    ]
  ]
  never-fails-open _ g f = f
