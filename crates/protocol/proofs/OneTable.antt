-- What a site that keeps in step with its table shows; the theorem that its answers are those of the table.
use Rattle.std.proofs.Common.{◌≡◌, ℕ, zero, suc, ◌+◌, ◌/◌, ◌%◌, ◌<◌, ◌≤◌, [], is_some, Some, None, Option, sym, refl, ap, ◌∙◌, inl, inr, arith}
use Rattle.std.proofs.lemmas.Bool.{cases_lt}
use Rattle.rules.specs.Rule.{Meaning, Lawful}
use Rattle.rules.specs.Lowest.{Tells}
use Rattle.protocol.specs.Station.{Request}
use Rattle.protocol.specs.Costs.{one}
use Rattle.protocol.specs.Turns.{lowest_pair}
use Rattle.protocol.proofs.Totals.{total_ext, total-zero, zero-total, count-few}
use Rattle.protocol.proofs.Whole.{Both, carry_one, open_cost, due, carry_lowest, settles, run, fresh_both, opens, Quiet, open_count, Agrees, Rests, Settled, OneTable}
use Rattle.protocol.proofs.Locking.{Phase, idle, busy, Settling, clear, settling, is_settling, Valid, Sent}
use Rattle.protocol.proofs.Counts.{worked, left, row, underway_count, work_done, work_left, open_of, lefts-works, no-left}
use Rattle.protocol.proofs.Shows.{request_of}
use Rattle.protocol.proofs.Room.{no-parts, room, no-queue}
use Rattle.protocol.proofs.Quiet.{all-idle, all-free, quiet-clear, quiet-waits}
use Rattle.protocol.proofs.Pairs.{holds_at, pair-tells, filled, none_below}
use Rattle.protocol.proofs.Carrying.{InStep, carry-good, carry-spent}
use Rattle.protocol.proofs.Run.{run-good, fresh-in_step}

open-same : (R : Meaning) (p : Phase) → opens (request_of R p) ≡ open_of p
open-same R p = grind arith

beyond : (R : Meaning) → Lawful R → (s : ℕ) (p : Phase) → Valid R s p → R.stations ≤ s → p ≡ idle
beyond R L s idle f l = refl
beyond R L s (busy e g known stage) f l = let o = L.owners_are_stations e f.0 in let h = f.1 in absurd (omega arith)

module _ (R : Meaning) (L : Lawful R) (eight : R.stations ≤ 8) (B : Both) (G : InStep R B) where
  -- what is due is what was carried, what is under way and what is left
  pub dues : B.carries + (underway_count R G.locking + work_left R G.locking) ≡ due R B
  dues =
      let c = G.counted in
      let l = lefts-works R L G.locking B.table.marking G.invariant in
      let t =
      total_ext (λ s. open_cost R (open_of (G.locking.phase s))) (λ s. open_cost R (B.table.asked s)) R.stations
      (λ s. ap (open_cost R) (G.asked s)) in
      omega arith

  module _ (h : B.carries ≡ due R B) where
    no-phase : (s : ℕ) → s < R.stations → G.locking.phase s ≡ idle
    no-phase s l = no-left R L (G.locking.phase s) (zero-total (λ s. left R (G.locking.phase s)) R.stations (let d = dues in omega arith) s l)

    no-phases : (s : ℕ) → G.locking.phase s ≡ idle
    no-phases s = elim (cases_lt s R.stations) [ inl l ↦ no-phase s l | inr l ↦ beyond R L s (G.locking.phase s) (G.invariant.valid s) l ]

    no-settle-in : (a b : ℕ) → a < R.stations → b < R.stations → one (is_settling (G.locking.underway a b)) ≡ 0
    no-settle-in a b la lb =
        let d = dues in
        zero-total (λ c. one (is_settling (G.locking.underway a c))) R.stations
        (zero-total (row R G.locking) R.stations (omega arith) a la) b lb

    no-settle : (a b : ℕ) → G.locking.underway a b ≡ clear
    no-settle a b = go (G.locking.underway a b) refl (G.invariant.sent a b)
      where
        go : (t : Settling) → G.locking.underway a b ≡ t → Sent R a b t → G.locking.underway a b ≡ clear
        go clear e k = e
        go (settling v ok) e k = let z = no-settle-in a b k.2 k.3 in absurd (grind arith)

    pub ends : Quiet R B
    ends a b la lb =
        let g = G.shown.grants_of a b in let o = G.shown.others_of a b in let c = no-settle a b in let i = no-phases a in let j = no-phases b in
        no-parts (B.site.waits a b) (grind arith) (grind arith)

  pub same_asked : (s : ℕ) → opens (B.site.station s).request ≡ B.table.asked s
  same_asked s = ap opens (G.shown.requests s) ∙ open-same R (G.locking.phase s) ∙ sym (G.asked s)

  pub agrees : (limit : ℕ) → 3 ≤ limit → Agrees R limit B
  agrees limit enough = record {
    answers = G.answers;
    no_stray = G.no_stray;
    same = same_asked;
    room = room R B.site G.locking G.shown;
    within = let d = dues in omega arith;
    ends = ends;
    spends = λ a b. carry-spent R L eight limit enough B G a b;
  }

  module _ (quiet : Quiet R B) where
    pub none_left : (a b : ℕ) → B.site.waits a b ≡ []
    none_left a b = elim (cases_lt a R.stations) [
      | inl la ↦ elim (cases_lt b R.stations) [ inl lb ↦ quiet a b la lb | inr lb ↦ no-queue R L B.site G.locking B.table.marking G.invariant G.shown a b (inr lb) ]
      | inr la ↦ no-queue R L B.site G.locking B.table.marking G.invariant G.shown a b (inl la)
    ]

    phase-idle : (s : ℕ) → G.locking.phase s ≡ idle
    phase-idle =
        all-idle R L G.locking B.table.marking G.invariant (quiet-clear R B.site G.locking G.shown none_left)
        (quiet-waits R B.site G.locking G.shown none_left)

    lock-free : (f : ℕ) → G.locking.holder f ≡ None
    lock-free =
        all-free R L G.locking B.table.marking G.invariant (quiet-clear R B.site G.locking G.shown none_left)
        (quiet-waits R B.site G.locking G.shown none_left)

    no-underway : underway_count R G.locking ≡ 0
    no-underway =
        total-zero (row R G.locking) R.stations
        (λ a. total-zero (λ b. one (is_settling (G.locking.underway a b))) R.stations
        (λ b. let c = quiet-clear R B.site G.locking G.shown none_left a b in grind arith))

    no-works : work_done R G.locking ≡ 0
    unfolding worked
    no-works = total-zero (λ s. worked R (G.locking.phase s)) R.stations (λ s. ap (worked R) (phase-idle s))

    no-lefts : work_left R G.locking ≡ 0
    unfolding left
    no-lefts = total-zero (λ s. left R (G.locking.phase s)) R.stations (λ s. ap (left R) (phase-idle s))

    pub rests : Rests R B
    rests = record {
      no_request = λ s. G.shown.requests s ∙ ap {B = Request} (request_of R) (phase-idle s);
      free = λ f. G.shown.holders f ∙ lock-free f;
      marks = λ f l. let i = G.invariant.seen f l in let m = G.shown.marks f in let h = lock-free f in grind arith;
      counted = let c = G.counted in let f = no-underway in let w = no-works in omega arith;
      all = let d = dues in let f = no-underway in let w = no-lefts in omega arith;
    }

-- a settle
pub open-few : (R : Meaning) (B : Both) → open_count R B ≤ R.stations
open-few R B = count-few (λ s. is_some (B.table.asked s)) R.stations

settle-quiet : (R : Meaning) → R.stations ≤ 8 → (B : Both) → Tells (holds_at B.site.waits) 64 None → Quiet R B
settle-quiet R eight B t a b la lb = none_below B.site.waits t a b (omega arith) (omega arith)

module _ (R : Meaning) (L : Lawful R) (eight : R.stations ≤ 8) (limit : ℕ) (enough : 3 ≤ limit) where
  rested : (B : Both) → InStep R B → Quiet R B → Settled R B B
  rested B G q =
      let r = rests R L eight B G q in
      record { quiet = q; taken = r.all; told = (let c = no-opens B G r in omega arith); few = open-few R B }
    where
      no-opens : (B : Both) → InStep R B → Rests R B → open_count R B ≡ 0
      no-opens B G r =
          total-zero (λ s. one (is_some (B.table.asked s))) R.stations
          (λ s. let h = same_asked R L eight B G s in let i = r.no_request s in grind arith)

  settle-next : (n : ℕ) (B : Both) → InStep R B → due R B ≤ suc n + B.carries →
      ((C : Both) → InStep R C → due R C ≤ n + C.carries → Settled R C (settles R limit n C)) →
      (o : Option ℕ) → Tells (holds_at B.site.waits) 64 o → Settled R B (settles R limit n (carry_lowest R limit B o))
  settle-next n B G l ih None t = ih B G (let r = (rests R L eight B G (settle-quiet R eight B t)).all in omega arith)
  settle-next n B G l ih (Some k) t =
      let sp = carry-spent R L eight limit enough B G (k / 8) (k % 8) (filled (B.site.waits (k / 8) (k % 8)) t.0) in
      let s0 = sp.0 in let s1 = sp.1 in let s2 = sp.2 in
      let r = ih (carry_one R limit B (k / 8) (k % 8)) (carry-good R L eight limit enough B G (k / 8) (k % 8)) (omega arith) in
      record { quiet = r.quiet; taken = r.taken ∙ s1; told = r.told ∙ s2; few = open-few R B }

  settle-go : (n : ℕ) (B : Both) → InStep R B → due R B ≤ n + B.carries → Settled R B (settles R limit n B)
  settle-go zero B G l = rested B G ((agrees R L eight B G limit enough).ends (let w = (agrees R L eight B G limit enough).within in omega arith))
  settle-go (suc n) B G l = settle-next n B G l (settle-go n) (lowest_pair B.site.waits) (pair-tells B.site.waits)

pub one_table : OneTable
one_table R L eight limit enough acts =
    let B = run R limit (fresh_both R) acts in
    let G = run-good R L eight limit enough (fresh_both R) (fresh-in_step R) acts in
    (agrees R L eight B G limit enough, rests R L eight B G, λ n h. settle-go R L eight limit enough n B G h)
