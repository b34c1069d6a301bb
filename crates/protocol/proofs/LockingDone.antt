-- The last grant keeps the invariant, and the decision is that of the whole marking.
use Rattle.std.proofs.Common.{◌≡◌, ℕ, ◌<◌, Bool, true, false, cond, ◌&&◌, eqb, arith}
use Rattle.std.proofs.lemmas.Bool.Decides.{nat_tests}
use Rattle.events.specs.declared.marks.Marks.{Marks}
use Rattle.rules.specs.Rule.{Meaning, Lawful}
use Rattle.protocol.specs.Station.{put, concerned}
use Rattle.protocol.proofs.Lowest.{lowest-has, lowest-get}
use Rattle.protocol.proofs.Locking.{given, Phase, idle, busy, clear, Locking, has, waits_for, knows, Valid, Invariant, done}

-- a station is concerned exactly if it owns an event of the lock set
pub concerned-from : (R : Meaning) (e c : ℕ) → concerned R e c ≡ true → (f : ℕ) × (R.locks e f ≡ true) × (R.owner f ≡ c)
unfolding has waits_for knows
concerned-from R e c h =
    let k = lowest-get (λ f. R.locks e f && eqb (R.owner f) c) R.events h in let q = k.1 in (k.0, grind (arith, nat_tests), grind (arith, nat_tests))

pub concerned-to : (R : Meaning) → Lawful R → (e f : ℕ) → e < R.events → R.locks e f ≡ true → concerned R e (R.owner f) ≡ true
unfolding has waits_for knows
concerned-to R L e f le h =
    lowest-has (λ k. R.locks e k && eqb (R.owner k) (R.owner f)) R.events f (L.locks_events e f le h) (grind (arith, nat_tests))

pub concerned-station : (R : Meaning) → Lawful R → (e c : ℕ) → e < R.events → concerned R e c ≡ true → c < R.stations
concerned-station R L e c le h =
    let k = concerned-from R e c h in let l = L.locks_events e k.0 le k.1 in let o = L.owners_are_stations k.0 l in let i = k.2 in
    grind arith

pub knows-in : (R : Meaning) → Lawful R → (t : ℕ) (p : Phase) (f : ℕ) (x : Marks) → Valid R t p → knows R p f x → f < R.events
unfolding has waits_for knows
knows-in R L t idle f x h k = absurd k
knows-in R L t (busy e g known (given y)) f x h k = let w = L.locks_events e f h.0 in let v = L.locks_events e g h.0 h.2 in grind arith
knows-in R L t (busy e g known stage) f x h k = L.locks_events e f h.0 k.0

pub knows_has : (R : Meaning) (p : Phase) (f : ℕ) (x : Marks) → knows R p f x → has R p f ≡ true
unfolding has waits_for knows
knows_has R p f x = grind (arith, nat_tests)

module _ (R : Meaning) (L : Lawful R) (A : Locking) (M : ℕ → Marks) (I : Invariant R A M) (b e g : ℕ) (x : Marks) (known : ℕ → Marks)
    (at : A.phase b ≡ busy e g known (given x))
    (end : (j : ℕ) → g < j → R.locks e j ≡ false) where
  ev : e < R.events
  ev = let h = I.valid b in grind arith

  has_all : (f : ℕ) → has R (A.phase b) f ≡ R.locks e f
  unfolding has waits_for knows
  has_all f = let h = I.valid b in let l = end f in grind (arith, nat_tests)

  -- what was seen is what the table has, so the table decides alike
  all_seen : (f : ℕ) → R.locks e f ≡ true → put known g x f ≡ M f
  unfolding has waits_for knows
  all_seen f q = let h = I.noted b f (known f) in let h2 = I.noted b g x in let l = end f in grind (arith, nat_tests)

  pub same-decision : R.decides e (put known g x) ≡ R.decides e M
  unfolding has waits_for knows
  same-decision = L.decides_by_locks e (put known g x) M ev all_seen

  module _ (ok : Bool) where
    pub was-clear : (c : ℕ) → concerned R e c ≡ true → A.underway b c ≡ clear
    unfolding has waits_for knows
    was-clear c h =
        let k = concerned-from R e c h in let n = I.apart b k.0 in let m = has_all k.0 in let k1 = k.1 in let k2 = k.2 in
        grind (arith, nat_tests)

    pub done-inv : Invariant R (done R A b e ok) (λ f. cond ok (R.does e M f) (M f))
    unfolding has waits_for knows
    done-inv = record {
      sent = λ t c.
          let h = I.sent t c in let i = I.valid b in let o = L.owners_are_stations e in let k = concerned-station R L e c ev in grind (arith, nat_tests);
      valid = λ t. let h = I.valid t in grind (arith, nat_tests);
      holds = λ t f.
          let h = I.holds t f in let l = has_all f in let k = concerned-to R L e f ev in let c = was-clear (R.owner f) in grind (arith, nat_tests);
      apart = λ t f q. let h = I.apart t f in grind (arith, nat_tests);
      held = λ t f q. let h = I.held t f in grind (arith, nat_tests);
      seen = λ f q.
          let h = I.seen f q in let i = I.holds b f in let l = has_all f in let k = concerned-to R L e f ev in
          let c = was-clear (R.owner f) in let w = L.keeps_others e M f ev in let v = L.acts_on_each e M A.marks f ev in
          grind (arith, nat_tests);
      noted = λ t f y q.
          let h = I.noted t f y in let k = knows_has R (A.phase t) f y in let i = I.holds b f in let j = I.holds t f in
          let l = has_all f in let w = L.keeps_others e M f ev in let fe = knows-in R L t (A.phase t) f y (I.valid t) in
          grind (arith, nat_tests);
    }
