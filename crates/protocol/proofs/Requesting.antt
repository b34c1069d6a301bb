-- A request keeps a site and its table in step.
use Rattle.std.proofs.Common.{◌≡◌, ℕ, ◌<◌, ◌≤◌, Bool, true, false, cond, not, ◌&&◌, ◌||◌, eqb, ltb, is_some, Some, None, Option, sym, refl, ap, ◌∙◌, arith}
use Rattle.std.proofs.lemmas.Bool.Decides.{nat_tests}
use Rattle.events.specs.Marks.{unmarked}
use Rattle.rules.specs.Rule.{Meaning, Lawful}
use Rattle.rules.specs.Semantics.{lowest}
use Rattle.rules.specs.Lowest.{Tells, lowest-tells}
use Rattle.protocol.specs.Station.{is_resting, begins}
use Rattle.protocol.specs.Queues.{room_for}
use Rattle.protocol.specs.Machine.{Machine, requests}
use Rattle.protocol.proofs.Whole.{Both, Out, moves, lost, opening, act}
use Rattle.protocol.proofs.Locking.{Phase, idle, begun}
use Rattle.protocol.proofs.LockingOpen.{begun-inv}
use Rattle.protocol.proofs.Counts.{open_of, begun-works}
use Rattle.protocol.proofs.Shows.{request_of}
use Rattle.protocol.proofs.ShowsOpen.{begun-shows}
use Rattle.protocol.proofs.Carrying.{InStep, moves_next}

module _ (R : Meaning) (L : Lawful R) (eight : R.stations ≤ 8) (limit : ℕ) (enough : 3 ≤ limit) (B : Both) (G : InStep R B) (s e : ℕ) where
  open-alike : (p : Phase) → is_resting (request_of R p) ≡ not (is_some (open_of p))
  open-alike p = grind arith

  pub alike : is_resting (B.site.station s).request ≡ not (is_some (B.table.asked s))
  alike = ap is_resting (G.shown.requests s) ∙ open-alike (G.locking.phase s) ∙ sym (ap (λ o. not (is_some o)) (G.asked s))

  pub idle-since : (p : Phase) → is_resting (request_of R p) ≡ true → p ≡ idle
  idle-since p h = grind arith

  abbrev pub With : Out → Machine → Both
  With o t = record {
    site = o.site;
    table = t;
    said = B.said;
    judged = B.judged;
    strays = B.strays || lost o.delivery;
    carries = B.carries;
    costs = B.costs;
  }

  abbrev pub opened : Machine
  opened = requests B.table s e None

  module _ (lt : e < R.events) (ow : R.owner e ≡ s) (at : G.locking.phase s ≡ idle) where
    pub begin-room : (g : ℕ) → Tells (R.locks e) R.events (Some g) →
        room_for limit B.site.waits s (begins R (B.site.station s) e (Some g)).posts ≡ true
    begin-room g t =
        moves_next R limit enough B B.site.waits s (begins R (B.site.station s) e (Some g)) (begun G.locking s e g (λ _. unmarked))
        (begun-shows R B.site G.locking G.shown s e g at t)

    pub begin : (o : Option ℕ) → Tells (R.locks e) R.events o →
        InStep R (With (moves limit B.site B.site.waits s (begins R (B.site.station s) e o)) opened)
    begin None t = let z = t e lt in let y = L.locks_itself e lt in absurd (grind arith)
    begin (Some g) t = rw (begin-room g t)
        (let w = begun-works R L G.locking B.table.marking G.invariant s e g (λ _. unmarked) at t lt ow in
        let c = G.counted in
        record {
          locking = begun G.locking s e g (λ _. unmarked);
          invariant = begun-inv R L G.locking B.table.marking G.invariant s e g (λ _. unmarked) at t lt ow;
          shown = begun-shows R B.site G.locking G.shown s e g at t;
          asked = λ u. let o = G.asked u in grind (arith, nat_tests);
          answers = G.answers;
          no_stray = let h = G.no_stray in grind arith;
          counted = omega arith;
        })

  -- with the test's answer
  request-go : (t : Bool) → (ltb e R.events && eqb (R.owner e) s && is_resting (B.site.station s).request) ≡ t →
      InStep R
      (With
      (cond t (moves limit B.site B.site.waits s (begins R (B.site.station s) e (lowest (R.locks e) R.events))) (record { site = B.site; delivery = None }))
      (cond t opened B.table))
  request-go false h = record {
    locking = G.locking;
    invariant = G.invariant;
    shown = G.shown;
    asked = G.asked;
    answers = G.answers;
    no_stray = (let h = G.no_stray in grind arith);
    counted = G.counted;
  }
  request-go true h =
      begin (grind (arith, nat_tests)) (grind (arith, nat_tests))
      (idle-since (G.locking.phase s) (let r = G.shown.requests s in grind (arith, nat_tests))) (lowest (R.locks e) R.events)
      (lowest-tells (R.locks e) R.events)

  pub request-good : InStep R (act R limit B (opening s e))
  request-good = rw (← alike) (request-go (ltb e R.events && eqb (R.owner e) s && is_resting (B.site.station s).request) refl)
