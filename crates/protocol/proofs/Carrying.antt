-- A message carried keeps a site and its table in step.
use Rattle.std.proofs.Common.{◌≡◌, ℕ, suc, ◌+◌, ◌<◌, ◌≤◌, Bool, true, false, cond, not, ◌&&◌, ltb, List, [], ◌∷◌, is_some, Some, None, Option, Ok, sym, refl, ap, ◌∙◌, subst, arith}
use Rattle.std.proofs.lemmas.Bool.Decides.{nat_tests}
use Rattle.std.proofs.lemmas.Bool.{lt-ltb, eq-eqb}
use Rattle.events.specs.declared.marks.Marks.{Marks}
use Rattle.lines.specs.declared.note.Note.{Note}
use Rattle.lines.specs.declared.note.Note.TheVariants.{Ask, Grant, Settle}
use Rattle.rules.specs.declared.decision.Decision.{Decision}
use Rattle.rules.specs.Answers.{accepted}
use Rattle.rules.specs.Rule.{Meaning, Lawful}
use Rattle.rules.specs.Lowest.{Tells, lowest-is, lowest-tells}
use Rattle.protocol.specs.Outcomes.{Delivery}
use Rattle.protocol.specs.Station.{Request, Step, put, put_pair, is, missing, asks, goes_on, had_more, granted, settled, step}
use Rattle.protocol.specs.Queues.{room_for}
use Rattle.protocol.specs.Sites.{Site, moved}
use Rattle.protocol.specs.Costs.{total, one, count, cost}
use Rattle.protocol.proofs.Totals.{total-at}
use Rattle.protocol.proofs.Whole.{Both, moves, carry, after, carry_one, open_cost, Spent}
use Rattle.protocol.proofs.Locking.{requested, given, Phase, busy, clear, settling, Locking, Invariant, ask_free, ask_held, more, done, hands_over, marks_after, granting, freed}
use Rattle.protocol.proofs.LockingAsk.{free-inv, held-inv}
use Rattle.protocol.proofs.LockingGrant.{more-inv}
use Rattle.protocol.proofs.LockingDone.{concerned-station, same-decision, was-clear, done-inv}
use Rattle.protocol.proofs.LockingSettle.{freed-inv}
use Rattle.protocol.proofs.Counts.{underway_count, work_done, open_of, free-works, held-works, more-works, done-underway, done-works, freed-works, freed-underway}
use Rattle.protocol.proofs.Posts.{room-for}
use Rattle.protocol.proofs.Shows.{only_grants, others, request_of, ask_list, Shows, ask-head, settle-head, other-head, grant-head}
use Rattle.protocol.proofs.ShowsAsk.{free-shows, held-shows}
use Rattle.protocol.proofs.ShowsGrant.{more-shows, done-shows}
use Rattle.protocol.proofs.ShowsSettle.{freed-shows}
use Rattle.protocol.proofs.Room.{room}

pub record InStep (R : Meaning) (B : Both) : Type 0 where
  pub locking : Locking
  pub invariant : Invariant R locking B.table.marking
  pub shown : Shows R B.site locking
  pub asked : (s : ℕ) → B.table.asked s ≡ open_of (locking.phase s)
  pub answers : B.said ≡ B.judged
  pub no_stray : B.strays ≡ false
  pub counted : B.carries + underway_count R locking ≡ B.costs + work_done R locking

-- what a carry that takes a message comes to
abbrev pub Next : Meaning → Both → (ℕ → ℕ → List (Option Note)) → ℕ → Step → Type 0
Next R B Q b t = InStep R (after R B (moved B.site Q b t) (Some t.delivery)) × Spent R B (after R B (moved B.site Q b t) (Some t.delivery))

same-due : (R : Meaning) (o : ℕ → Option ℕ) (e b : ℕ) → b < R.stations → o b ≡ Some e →
    cost R e + total (λ s. open_cost R (put o b None s)) R.stations ≡ total (λ s. open_cost R (o s)) R.stations
same-due R o e b l h =
    let t = total-at (λ s. open_cost R (o s)) (λ s. open_cost R (put o b None s)) R.stations b (λ k ne. grind (arith, nat_tests)) l in
    let x : open_cost R (o b) ≡ cost R e = ap (open_cost R) h in
    let y : open_cost R (put o b None b) ≡ 0 = grind (arith, nat_tests) in omega arith

same-opens : (R : Meaning) (o : ℕ → Option ℕ) (e b : ℕ) → b < R.stations → o b ≡ Some e →
    suc (count (λ s. is_some (put o b None s)) R.stations) ≡ count (λ s. is_some (o s)) R.stations
same-opens R o e b l h =
    let t = total-at (λ s. one (is_some (o s))) (λ s. one (is_some (put o b None s))) R.stations b (λ k ne. grind (arith, nat_tests)) l in
    let x : one (is_some (o b)) ≡ 1 = grind arith in
    let y : one (is_some (put o b None b)) ≡ 0 = grind (arith, nat_tests) in omega arith

module _ (R : Meaning) (L : Lawful R) (eight : R.stations ≤ 8) (B : Both) (G : InStep R B) (a b : ℕ) where
  abbrev pub A : Locking
  A = G.locking

  abbrev pub S : Site
  S = B.site

  -- a step that answers nothing
  silent : (Q : ℕ → ℕ → List (Option Note)) (t : Step) → t.delivery ≡ Ok None → (X : Locking) → Invariant R X B.table.marking →
      Shows R (moved S Q b t) X → ((s : ℕ) → B.table.asked s ≡ open_of (X.phase s)) → suc B.carries + underway_count R X ≡ B.costs + work_done R X → Next R B Q b t
  silent Q t d X i r o n = rw d (record { locking = X; invariant = i; shown = r; asked = o; answers = G.answers; no_stray = G.no_stray; counted = n }, (refl, refl, refl))

  -- an ask
  module _ (f : ℕ) (q : List (Option Note)) (hd : S.waits a b ≡ Some (Ask f) ∷ q) where
    ask-is : (A.underway a b ≡ clear) × (e : ℕ) × (known : ℕ → Marks) × (A.phase a ≡ busy e f known requested) × (R.owner f ≡ b) × (others q ≡ [])
    ask-is = ask-head R (A.underway a b) (A.phase a) b f (others q) (sym (ap others hd) ∙ G.shown.others_of a b)

    ask-next : (o : Option ℕ) → (S.station b).holder f ≡ o → Next R B (put_pair S.waits a b q) b (asks (S.station b) a f o)
    ask-next None h =
        let k = ask-is in let e = k.1 in let known = k.2 in let at = k.3 in
        let cl : A.underway a (R.owner f) ≡ clear = let c = k.0 in let o = k.4 in cc in
        let w = free-works R L A B.table.marking G.invariant a e f known at in
        let c = G.counted in
        silent (put_pair S.waits a b q) (asks (S.station b) a f None) refl (ask_free A a e f known)
        (free-inv R L A B.table.marking G.invariant a e f known at cl (let i = G.shown.holders f in let o = k.4 in cc))
        (free-shows R S A G.shown a b e f known q hd at k.0 k.4 k.5) (λ s. let o = G.asked s in grind (arith, nat_tests)) (omega arith)
    ask-next (Some t) h =
        let k = ask-is in let e = k.1 in let known = k.2 in let at = k.3 in
        let cl : A.underway a (R.owner f) ≡ clear = let c = k.0 in let o = k.4 in cc in
        let w = held-works R L A B.table.marking G.invariant a e f known at in
        let c = G.counted in
        silent (put_pair S.waits a b q) (asks (S.station b) a f (Some t)) refl (ask_held A a e f known)
        (held-inv R L A B.table.marking G.invariant a e f known at cl (let i = G.shown.holders f in let o = k.4 in grind arith))
        (held-shows R S A G.shown a b e f known q hd at k.0 k.4 k.5 t) (λ s. let o = G.asked s in grind (arith, nat_tests)) (omega arith)

    ask-event : f < R.events
    ask-event = let i = G.invariant.valid a in let k = ask-is in let at = k.3 in let w = L.locks_events k.1 f in grind arith

    ask-done : Next R B (put_pair S.waits a b q) b (step R b (S.station b) a (Some (Ask f)))
    ask-done = rw (lt-ltb f R.events ask-event, eq-eqb (R.owner f) b ask-is.4) (ask-next ((S.station b).holder f) refl)

  -- a settle
  module _ (e : ℕ) (ok : Bool) (q : List (Option Note)) (hd : S.waits a b ≡ Some (Settle e ok) ∷ q) where
    settle_is : (A.underway a b ≡ settling e ok) × (others q ≡ ask_list R (A.phase a) b)
    settle_is = settle-head R (A.underway a b) (A.phase a) b e ok (others q) (sym (ap others hd) ∙ G.shown.others_of a b)

    from-owner : (e < R.events) × (R.owner e ≡ a)
    from-owner = let i = G.invariant.sent a b in let k = settle_is.0 in (grind arith, grind arith)

    same-open : (p : ℕ → Bool) (m : ℕ → Marks) (x : Phase) → open_of (granting p m x) ≡ open_of x
    same-open p m x = grind arith

    settle-done : Next R B (put_pair S.waits a b q) b (step R b (S.station b) a (Some (Settle e ok)))
    settle-done = rw (lt-ltb e R.events from-owner.0, eq-eqb (R.owner e) a from-owner.1)
        (let k = settle_is in
        let w = freed-works R L A B.table.marking G.invariant a b e ok k.0 in
        let v = freed-underway R L A B.table.marking G.invariant a b e ok k.0 in
        let c = G.counted in
        silent (put_pair S.waits a b q) (settled R (S.station b) a b e ok) refl (freed R A a b e ok)
        (freed-inv R L eight A B.table.marking G.invariant a b e ok k.0)
        (freed-shows R L S A G.shown G.invariant.valid a b e ok q hd k.0 from-owner.0 k.1)
        (λ s. G.asked s ∙ sym (same-open (hands_over R A a b s) (marks_after R A b e ok) (A.phase s))) (omega arith))

  -- a grant
  module _ (f : ℕ) (x : Marks) (q : List (Option Note)) (hd : S.waits a b ≡ Some (Grant f x) ∷ q) where
    grant-is : (e : ℕ) × (known : ℕ → Marks) × (A.phase b ≡ busy e f known (given x)) × (R.owner f ≡ a) × (only_grants q ≡ [])
    grant-is = grant-head R (A.phase b) a f x (only_grants q) (sym (ap only_grants hd) ∙ G.shown.grants_of a b)

    abbrev e : ℕ
    e = grant-is.0

    abbrev known : ℕ → Marks
    known = grant-is.1

    abbrev had : ℕ → Bool
    had k = R.locks e k && ltb k f

    asks-for : (e < R.events) × (R.owner e ≡ b) × (R.locks e f ≡ true)
    asks-for = let i = G.invariant.valid b in let k = grant-is.2 in (grind arith, grind arith, grind arith)

    missing-now : missing R e had ≡ Some f
    missing-now =
        let l = asks-for.2 in
        lowest-is (λ k. R.locks e k && not (had k)) R.events f (grind (arith, nat_tests)) (L.locks_events e f asks-for.0 l)
        (λ j h. grind (arith, nat_tests))

    fitting : granted R (S.station b) a f x (S.station b).request ≡ goes_on R (S.station b) e (had_more had f) (put known f x)
        (missing R e (had_more had f))
    fitting = ap {B = Step} (granted R (S.station b) a f x) (G.shown.requests b ∙ ap {B = Request} (request_of R) grant-is.2)
        ∙ rw (missing-now, eq-eqb f f refl, eq-eqb (R.owner f) a grant-is.3) refl

    grant-next : (o : Option ℕ) → Tells (λ k. R.locks e k && not (had_more had f k)) R.events o →
        Next R B (put_pair S.waits a b q) b (goes_on R (S.station b) e (had_more had f) (put known f x) o)
    grant-next (Some g') t =
        let k = grant-is in let at = k.2 in let l = asks-for.2 in let t0 = t.0 in
        let up : f < g' = grind (arith, nat_tests) in
        let lk : R.locks e g' ≡ true = grind (arith, nat_tests) in
        let gap : (j : ℕ) → f < j → j < g' → R.locks e j ≡ false = λ j h i. let t2 = t.2 j i in grind (arith, nat_tests) in
        let w = more-works R L A B.table.marking G.invariant b e f x known at g' up gap in
        let c = G.counted in
        silent (put_pair S.waits a b q) (goes_on R (S.station b) e (had_more had f) (put known f x) (Some g')) refl (more A b e f x g' known)
        (more-inv R L A B.table.marking G.invariant b e f x g' known at up lk gap)
        (more-shows R S A G.shown a b e f x known q hd at k.3 k.4 l g' up gap) (λ s. let o = G.asked s in grind (arith, nat_tests)) (omega arith)
    grant-next None t =
        let k = grant-is in let at = k.2 in let l = asks-for.2 in let ow = asks-for.1 in
        let end : (j : ℕ) → f < j → R.locks e j ≡ false = λ j h. let t2 = t j in let w = L.locks_events e j asks-for.0 in grind (arith, nat_tests) in
        let seen : ℕ → Marks = put known f x in
        let M : ℕ → Marks = B.table.marking in
        let ok : Bool = accepted (R.decides e seen) in
        let v = same-decision R L A M G.invariant b e f x known at end in
        let clr = was-clear R L A M G.invariant b e f x known at end ok in
        let w = done-works R L A M G.invariant b e f x known at end clr ok in
        let z = done-underway R L A M G.invariant b e f x known at end clr ok in
        let c = G.counted in
        let o = G.asked (R.owner e) in
        let exp : is (B.table.asked (R.owner e)) e ≡ true = grind (arith, nat_tests) in
        rw exp (
          record {
            locking = done R A b e ok;
            invariant =
                subst (λ (d : Decision). Invariant R (done R A b e ok) (λ k. cond (accepted d) (R.does e M k) (M k))) v
                (done-inv R L A M G.invariant b e f x known at end ok);
            shown =
                done-shows R S A G.shown a b e f x known q hd at k.3 k.4 l clr (λ c. concerned-station R L e c asks-for.0)
                (had_more had f) seen;
            asked = λ s. let o = G.asked s in grind (arith, nat_tests);
            answers = let h = G.answers in cc;
            no_stray = G.no_stray;
            counted = omega arith;
          },
          (refl, (let d = same-due R B.table.asked e (R.owner e) (L.owners_are_stations e asks-for.0) (let o = G.asked (R.owner e) in cc) in omega arith), (let d = same-opens R B.table.asked e (R.owner e) (L.owners_are_stations e asks-for.0) (let o = G.asked (R.owner e) in cc) in omega arith)),
        )

    grant-done : Next R B (put_pair S.waits a b q) b (step R b (S.station b) a (Some (Grant f x)))
    grant-done =
        subst (Next R B (put_pair S.waits a b q) b) (sym fitting)
        (grant-next (missing R e (had_more had f)) (lowest-tells (λ k. R.locks e k && not (had_more had f k)) R.events))

  pub carry-next : (m : Option Note) (q : List (Option Note)) → S.waits a b ≡ m ∷ q → Next R B (put_pair S.waits a b q) b (step R b (S.station b) a m)
  carry-next (Some (Ask f)) q h = ask-done f q h
  carry-next (Some (Grant f x)) q h = grant-done f x q h
  carry-next (Some (Settle e ok)) q h = settle-done e ok q h
  carry-next None q h = absurd (other-head R (A.underway a b) (A.phase a) b (others q) (sym (ap others h) ∙ G.shown.others_of a b))

-- whatever the step does
pub shown_of : (R : Meaning) (B : Both) (w : Option Delivery) (S : Site) → (g : InStep R (after R B S w)) → Shows R S g.locking
shown_of R B (Some (Ok (Some d))) S g = g.shown
shown_of R B w S g = g.shown

-- its posts find room
pub moves_next : (R : Meaning) (limit : ℕ) → 3 ≤ limit → (B : Both) (Q : ℕ → ℕ → List (Option Note)) (b : ℕ) (t : Step) (A : Locking) →
    Shows R (moved B.site Q b t) A → room_for limit Q b t.posts ≡ true
moves_next R limit l B Q b t A r = room-for limit Q b t.posts (λ y. let k = room R (moved B.site Q b t) A r b y in omega arith)

module _ (R : Meaning) (L : Lawful R) (eight : R.stations ≤ 8) (limit : ℕ) (enough : 3 ≤ limit) (B : Both) (G : InStep R B) (a b : ℕ) where
  carry-moves : (Q : ℕ → ℕ → List (Option Note)) (t : Step) → Next R B Q b t →
      InStep R (after R B (moves limit B.site Q b t).site (moves limit B.site Q b t).delivery) × Spent R B
      (after R B (moves limit B.site Q b t).site (moves limit B.site Q b t).delivery)
  carry-moves Q t n = rw (moves_next R limit enough B Q b t n.0.locking (shown_of R B (Some t.delivery) (moved B.site Q b t) n.0)) n

  carry-go : (q : List (Option Note)) → B.site.waits a b ≡ q →
      InStep R (after R B (carry R limit B.site a b q).site (carry R limit B.site a b q).delivery)
  carry-go [] h = G
  carry-go (m ∷ q) h = (carry-moves (put_pair B.site.waits a b q) (step R b (B.site.station b) a m) (carry-next R L eight B G a b m q h)).0

  pub carry-good : InStep R (carry_one R limit B a b)
  carry-good = carry-go (B.site.waits a b) refl

  spent-go : (q : List (Option Note)) → B.site.waits a b ≡ q → (q ≡ [] → ⊥) →
      Spent R B (after R B (carry R limit B.site a b q).site (carry R limit B.site a b q).delivery)
  spent-go [] h n = absurd (n refl)
  spent-go (m ∷ q) h n = (carry-moves (put_pair B.site.waits a b q) (step R b (B.site.station b) a m) (carry-next R L eight B G a b m q h)).1

  pub carry-spent : (B.site.waits a b ≡ [] → ⊥) → Spent R B (carry_one R limit B a b)
  carry-spent n = spent-go (B.site.waits a b) refl n
