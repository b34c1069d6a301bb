-- A run keeps a site and its table in step.
use Rattle.std.proofs.Common.{ℕ, zero, suc, ◌/◌, ◌%◌, ◌≤◌, cond, List, [], ◌∷◌, Some, None, Option, refl, arith}
use Rattle.std.proofs.lemmas.Bool.{lt-ltb, eq-eqb}
use Rattle.events.specs.Marks.{unmarked}
use Rattle.rules.specs.Rule.{Meaning, Lawful}
use Rattle.protocol.specs.Station.{owns}
use Rattle.protocol.specs.Costs.{total}
use Rattle.protocol.specs.Turns.{lowest_pair}
use Rattle.protocol.proofs.Totals.{total-zero}
use Rattle.protocol.proofs.Whole.{Both, Act, opening, carrying, emptying, due, carry_lowest, settles, act, run, fresh_both}
use Rattle.protocol.proofs.Locking.{idle, clear, Locking, has, waits_for, knows}
use Rattle.protocol.proofs.Counts.{worked}
use Rattle.protocol.proofs.Carrying.{InStep, carry-good}
use Rattle.protocol.proofs.Requesting.{request-good}

next-good : (R : Meaning) → Lawful R → R.stations ≤ 8 → (limit : ℕ) → 3 ≤ limit → (B : Both) → InStep R B → (o : Option ℕ) →
    InStep R (carry_lowest R limit B o)
next-good R L eight limit enough B G None = G
next-good R L eight limit enough B G (Some k) = carry-good R L eight limit enough B G (k / 8) (k % 8)

settles-good : (R : Meaning) → Lawful R → R.stations ≤ 8 → (limit : ℕ) → 3 ≤ limit → (n : ℕ) (B : Both) → InStep R B → InStep R (settles R limit n B)
settles-good R L eight limit enough zero B G = G
settles-good R L eight limit enough (suc n) B G =
    settles-good R L eight limit enough n (carry_lowest R limit B (lowest_pair B.site.waits))
    (next-good R L eight limit enough B G (lowest_pair B.site.waits))

pub act-good : (R : Meaning) → Lawful R → R.stations ≤ 8 → (limit : ℕ) → 3 ≤ limit → (B : Both) → InStep R B → (x : Act) → InStep R (act R limit B x)
act-good R L eight limit enough B G (opening s e) = request-good R L eight limit enough B G s e
act-good R L eight limit enough B G emptying = settles-good R L eight limit enough (due R B) B G
act-good R L eight limit enough B G (carrying a b) = carry-good R L eight limit enough B G a b

pub run-good : (R : Meaning) → Lawful R → R.stations ≤ 8 → (limit : ℕ) → 3 ≤ limit → (B : Both) → InStep R B → (acts : List Act) →
    InStep R (run R limit B acts)
run-good R L eight limit enough B G [] = G
run-good R L eight limit enough B G (x ∷ xs) = run-good R L eight limit enough (act R limit B x) (act-good R L eight limit enough B G x) xs

-- the fresh site
abbrev fresh_locking : Meaning → Locking
fresh_locking R = record { marks = λ f. cond (owns R (R.owner f) f) (R.start f) unmarked; phase = λ _. idle; holder = λ _. None; underway = λ _ _. clear }

pub fresh-in_step : (R : Meaning) → InStep R (fresh_both R)
unfolding has waits_for knows worked
fresh-in_step R = record {
  locking = fresh_locking R;
  invariant =
      record
      { valid = λ s. tt; sent = λ a b. tt; holds = λ t f. refl; apart = λ t f h. refl; held = λ s f h. h; seen = λ f l. rw (lt-ltb f R.events l, eq-eqb (R.owner f) (R.owner f) refl) refl; noted = λ t f x h. absurd h };
  shown =
      record { marks = λ f. refl; requests = λ s. refl; holders = λ f. refl; waiters = λ f s. refl; grants_of = λ a b. refl; others_of = λ a b. refl };
  asked = λ s. refl;
  answers = refl;
  no_stray = refl;
  counted =
      let z = total-zero (λ a. none-underway R) R.stations (λ k. total-zero (λ _. 0) R.stations (λ _. refl)) in
      let y = total-zero (λ _. 0) R.stations (λ _. refl) in omega arith;
}
  where
    none-underway : Meaning → ℕ
    none-underway R = total (λ _. 0) R.stations
