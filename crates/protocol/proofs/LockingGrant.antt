-- A grant that is not the last keeps the invariant.
use Rattle.std.proofs.Common.{◌≡◌, ℕ, ◌<◌, true, false, arith}
use Rattle.std.proofs.lemmas.Bool.Decides.{nat_tests}
use Rattle.events.specs.declared.marks.Marks.{Marks}
use Rattle.rules.specs.Rule.{Meaning, Lawful}
use Rattle.protocol.proofs.Locking.{given, busy, Locking, has, waits_for, knows, Invariant, more}

module _ (R : Meaning) (L : Lawful R) (A : Locking) (M : ℕ → Marks) (I : Invariant R A M) (b e g : ℕ) (x : Marks) (g' : ℕ)
    (known : ℕ → Marks) (at : A.phase b ≡ busy e g known (given x))
    (up : g < g') (lk : R.locks e g' ≡ true) (gap : (j : ℕ) → g < j → j < g' → R.locks e j ≡ false) where
  abbrev N : Locking
  N = more A b e g x g' known

  same-has : (t f : ℕ) → has R (N.phase t) f ≡ has R (A.phase t) f
  unfolding has waits_for knows
  same-has t f = let h = I.valid b in let l = gap f in grind (arith, nat_tests)

  same-waits : (t f : ℕ) → waits_for R (N.phase t) f ≡ waits_for R (A.phase t) f
  unfolding has waits_for knows
  same-waits t f = grind (arith, nat_tests)

  pub more-inv : Invariant R (more A b e g x g' known) M
  unfolding has waits_for knows
  more-inv = record {
    sent = I.sent;
    valid = λ t. let h = I.valid t in grind (arith, nat_tests);
    holds = λ t f. rw same-has (I.holds t f);
    apart = λ t f q. rw (same-has, same-waits) (I.apart t f q);
    held = λ t f q. I.held t f (rw same-waits at q);
    seen = I.seen;
    noted = λ t f y. let h = I.noted t f y in let h2 = I.noted b g x in let l = gap f in grind (arith, nat_tests);
  }
