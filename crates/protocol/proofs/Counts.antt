-- The messages carried, those under way and those that are left.
use Rattle.std.proofs.Common.{◌≡◌, ℕ, ◌+◌, ◌*◌, ◌<◌, Bool, true, false, ◌&&◌, ltb, Some, None, Option, sym, refl, ap, ◌∙◌, arith}
use Rattle.std.proofs.lemmas.Bool.Decides.{nat_tests}
use Rattle.events.specs.declared.marks.Marks.{Marks}
use Rattle.rules.specs.Rule.{Meaning, Lawful}
use Rattle.rules.specs.Lowest.{Tells}
use Rattle.protocol.specs.Station.{put, concerned}
use Rattle.protocol.specs.Costs.{total, one, count}
use Rattle.protocol.proofs.Totals.{total_ext, total-at, total-add, total-zero}
use Rattle.protocol.proofs.Whole.{open_cost}
use Rattle.protocol.proofs.Locking.{Stage, requested, waits, given, Phase, idle, busy, clear, settling, Locking, is_settling, Valid, Invariant, begun, ask_free, ask_held, more, done, hands_over, marks_after, granting, freed}

-- what has been carried for an open request, and what is left
abbrev pub past : Stage → ℕ
past requested = 0
past stage = 1

unfoldable pub worked : Meaning → Phase → ℕ
worked R idle = 0
worked R (busy e g known stage) = 2 * count (λ f. R.locks e f && ltb f g) R.events + past stage

unfoldable pub left : Meaning → Phase → ℕ
left R idle = 0
left R (busy e g known requested) = 2 * count (λ f. R.locks e f && ltb g f) R.events + 2 + count (concerned R e) R.stations
left R (busy e g known stage) = 2 * count (λ f. R.locks e f && ltb g f) R.events + 1 + count (concerned R e) R.stations

-- settles under way
abbrev pub row : Meaning → Locking → ℕ → ℕ
row R A a = total (λ b. one (is_settling (A.underway a b))) R.stations

abbrev pub underway_count : Meaning → Locking → ℕ
underway_count R A = total (row R A) R.stations

abbrev pub work_done : Meaning → Locking → ℕ
work_done R A = total (λ s. worked R (A.phase s)) R.stations

abbrev pub work_left : Meaning → Locking → ℕ
work_left R A = total (λ s. left R (A.phase s)) R.stations

abbrev pub open_of : Phase → Option ℕ
open_of idle = None
open_of (busy e g known stage) = Some e

module _ (R : Meaning) (L : Lawful R) where
  -- one lock more
  count-more : (e g g' : ℕ) → e < R.events → g < g' → R.locks e g ≡ true → ((j : ℕ) → g < j → j < g' → R.locks e j ≡ false) →
      count (λ f. R.locks e f && ltb f g') R.events ≡ count (λ f. R.locks e f && ltb f g) R.events + 1
  count-more e g g' le up lk gap =
      let t =
      total-at (λ f. one (R.locks e f && ltb f g)) (λ f. one (R.locks e f && ltb f g')) R.events g
      (λ k ne. let l = gap k in grind (arith, nat_tests)) (L.locks_events e g le lk) in
      let z : one (R.locks e g && ltb g g) ≡ 0 = grind (arith, nat_tests) in
      let o : one (R.locks e g && ltb g g') ≡ 1 = grind (arith, nat_tests) in omega arith

  count-last : (e g : ℕ) → e < R.events → R.locks e g ≡ true → ((j : ℕ) → g < j → R.locks e j ≡ false) →
      count (R.locks e) R.events ≡ count (λ f. R.locks e f && ltb f g) R.events + 1
  count-last e g le lk end =
      let t =
      total-at (λ f. one (R.locks e f && ltb f g)) (λ f. one (R.locks e f)) R.events g
      (λ k ne. let l = end k in grind (arith, nat_tests)) (L.locks_events e g le lk) in
      let z : one (R.locks e g && ltb g g) ≡ 0 = grind (arith, nat_tests) in
      let o : one (R.locks e g) ≡ 1 = grind (arith, nat_tests) in omega arith

  count-first : (e g : ℕ) → ((j : ℕ) → j < g → R.locks e j ≡ false) → count (λ f. R.locks e f && ltb f g) R.events ≡ 0
  count-first e g lo = total-zero (λ f. one (R.locks e f && ltb f g)) R.events (λ k. let l = lo k in grind (arith, nat_tests))

  -- a change of one station's phase
  works_at : (A B : Locking) (s : ℕ) (p q : Phase) → s < R.stations → A.phase s ≡ p → B.phase s ≡ q →
      ((t : ℕ) → (t ≡ s → ⊥) → B.phase t ≡ A.phase t) → work_done R B + worked R p ≡ work_done R A + worked R q
  works_at A B s p q l hp hq h =
      let t = total-at (λ t. worked R (A.phase t)) (λ t. worked R (B.phase t)) R.stations s (λ t ne. ap (worked R) (h t ne)) l in
      let a = ap (worked R) hp in let b = ap (worked R) hq in omega arith

  valid-station : (s : ℕ) (p : Phase) (e g : ℕ) (known : ℕ → Marks) (stage : Stage) → Valid R s p → p ≡ busy e g known stage →
      (s < R.stations) × (R.locks e g ≡ true) × (e < R.events)
  valid-station s p e g known stage f h = let o = L.owners_are_stations e in (grind (arith, nat_tests), grind (arith, nat_tests), grind (arith, nat_tests))

  module _ (A : Locking) (M : ℕ → Marks) (I : Invariant R A M) where
    pub begun-works : (s e g : ℕ) (known : ℕ → Marks) → A.phase s ≡ idle → Tells (R.locks e) R.events (Some g) → e < R.events →
        R.owner e ≡ s → work_done R (begun A s e g known) ≡ work_done R A
    unfolding worked
    begun-works s e g known at lo lt ow =
        let o = L.owners_are_stations e lt in
        let w =
        works_at A (begun A s e g known) s idle (busy e g known requested) (omega arith) at (grind (arith, nat_tests))
        (λ t ne. grind (arith, nat_tests)) in
        let c = count-first e g lo.2 in omega arith

    pub free-works : (a e g : ℕ) (known : ℕ → Marks) → A.phase a ≡ busy e g known requested → work_done R (ask_free A a e g known) ≡ work_done R A + 1
    unfolding worked
    free-works a e g known at =
        let o = valid-station a (A.phase a) e g known requested (I.valid a) at in
        let w =
        works_at A (ask_free A a e g known) a (busy e g known requested) (busy e g known (given (A.marks g))) o.0 at
        (grind (arith, nat_tests)) (λ t ne. grind (arith, nat_tests)) in
        omega arith

    pub held-works : (a e g : ℕ) (known : ℕ → Marks) → A.phase a ≡ busy e g known requested → work_done R (ask_held A a e g known) ≡ work_done R A + 1
    unfolding worked
    held-works a e g known at =
        let o = valid-station a (A.phase a) e g known requested (I.valid a) at in
        let w =
        works_at A (ask_held A a e g known) a (busy e g known requested) (busy e g known waits) o.0 at (grind (arith, nat_tests))
        (λ t ne. grind (arith, nat_tests)) in
        omega arith

    module _ (b e g : ℕ) (x : Marks) (known : ℕ → Marks) (at : A.phase b ≡ busy e g known (given x)) where
      pub more-works : (g' : ℕ) → g < g' → ((j : ℕ) → g < j → j < g' → R.locks e j ≡ false) → work_done R (more A b e g x g' known) ≡ work_done R A + 1
      unfolding worked
      more-works g' up gap =
          let o = valid-station b (A.phase b) e g known (given x) (I.valid b) at in
          let w =
          works_at A (more A b e g x g' known) b (busy e g known (given x)) (busy e g' (put known g x) requested) o.0 at
          (grind (arith, nat_tests)) (λ t ne. grind (arith, nat_tests)) in
          let c = count-more e g g' o.2 up o.1 gap in omega arith

      module _ (end : (j : ℕ) → g < j → R.locks e j ≡ false) (clr : (c : ℕ) → concerned R e c ≡ true → A.underway b c ≡ clear) (ok : Bool) where
        done-row : row R (done R A b e ok) b ≡ row R A b + count (concerned R e) R.stations
        done-row =
            total_ext (λ c. one (is_settling (A.underway b c)) + one (concerned R e c))
            (λ c. one (is_settling ((done R A b e ok).underway b c))) R.stations (λ c. let k = clr c in grind (arith, nat_tests))
            ∙ total-add (λ c. one (is_settling (A.underway b c))) (λ c. one (concerned R e c)) R.stations

        pub done-underway : underway_count R (done R A b e ok) ≡ underway_count R A + count (concerned R e) R.stations
        done-underway =
            let o = valid-station b (A.phase b) e g known (given x) (I.valid b) at in
            let d = done-row in
            let t =
            total-at (row R A) (row R (done R A b e ok)) R.stations b
            (λ k ne. total_ext (λ c. one (is_settling (A.underway k c))) (λ c. one (is_settling ((done R A b e ok).underway k c)))
            R.stations (λ c. grind (arith, nat_tests)))
            o.0 in
            omega arith

        pub done-works : work_done R (done R A b e ok) + 2 * count (R.locks e) R.events ≡ work_done R A + 1
        unfolding worked
        done-works =
            let o = valid-station b (A.phase b) e g known (given x) (I.valid b) at in
            let w = works_at A (done R A b e ok) b (busy e g known (given x)) idle o.0 at (grind (arith, nat_tests)) (λ t ne. grind (arith, nat_tests)) in
            let c = count-last e g o.2 o.1 end in omega arith

    module _ (a b e : ℕ) (ok : Bool) (at : A.underway a b ≡ settling e ok) where
      worked-granting : (p : ℕ → Bool) (m : ℕ → Marks) (q : Phase) → worked R (granting p m q) ≡ worked R q
      unfolding worked
      worked-granting p m q = grind arith

      pub freed-works : work_done R (freed R A a b e ok) ≡ work_done R A
      freed-works =
          total_ext (λ s. worked R (A.phase s)) (λ s. worked R ((freed R A a b e ok).phase s)) R.stations
          (λ s. worked-granting (hands_over R A a b s) (marks_after R A b e ok) (A.phase s))

      pub freed-underway : underway_count R (freed R A a b e ok) + 1 ≡ underway_count R A
      freed-underway =
          let i = I.sent a b in
          let la : a < R.stations = grind arith in
          let lb : b < R.stations = grind arith in
          let r =
          total-at (λ c. one (is_settling (A.underway a c))) (λ c. one (is_settling ((freed R A a b e ok).underway a c))) R.stations
          b (λ k ne. grind (arith, nat_tests)) lb in
          let x : one (is_settling (A.underway a b)) ≡ 1 = grind arith in
          let y : one (is_settling ((freed R A a b e ok).underway a b)) ≡ 0 = grind (arith, nat_tests) in
          let t =
          total-at (row R A) (row R (freed R A a b e ok)) R.stations a
          (λ k ne. total_ext (λ c. one (is_settling (A.underway k c))) (λ c. one (is_settling ((freed R A a b e ok).underway k c)))
          R.stations (λ c. grind (arith, nat_tests)))
          la in
          omega arith

  -- what is done and what is left of a request make its cost
  count-split : (e g : ℕ) → e < R.events → R.locks e g ≡ true → count (R.locks e) R.events ≡
      count (λ f. R.locks e f && ltb f g) R.events + count (λ f. R.locks e f && ltb g f) R.events + 1
  count-split e g le lk =
      let a = total-add (λ f. one (R.locks e f && ltb f g)) (λ f. one (R.locks e f && ltb g f)) R.events in
      let t =
      total-at (λ f. one (R.locks e f && ltb f g) + one (R.locks e f && ltb g f)) (λ f. one (R.locks e f)) R.events g
      (λ k ne. grind (arith, nat_tests)) (L.locks_events e g le lk) in
      let z : one (R.locks e g && ltb g g) ≡ 0 = grind (arith, nat_tests) in
      let o : one (R.locks e g) ≡ 1 = grind (arith, nat_tests) in omega arith

  pub left-worked : (s : ℕ) (p : Phase) → Valid R s p → left R p + worked R p ≡ open_cost R (open_of p)
  unfolding left worked
  left-worked s idle h = refl
  left-worked s (busy e g known requested) h = let c = count-split e g h.0 h.2 in omega arith
  left-worked s (busy e g known stage) h = let c = count-split e g h.0 h.2 in omega arith

  pub lefts-works : (A : Locking) (M : ℕ → Marks) → Invariant R A M →
      work_left R A + work_done R A ≡ total (λ s. open_cost R (open_of (A.phase s))) R.stations
  lefts-works A M I =
      sym (total-add (λ s. left R (A.phase s)) (λ s. worked R (A.phase s)) R.stations)
      ∙ sym
      (total_ext (λ s. left R (A.phase s) + worked R (A.phase s)) (λ s. open_cost R (open_of (A.phase s))) R.stations
      (λ s. sym (left-worked s (A.phase s) (I.valid s))))

  -- nothing left: nothing under way
  pub no-left : (p : Phase) → left R p ≡ 0 → p ≡ idle
  unfolding left
  no-left idle h = refl
  no-left (busy e g known requested) h = absurd (omega arith)
  no-left (busy e g known stage) h = absurd (omega arith)
