-- An ask keeps the invariant.
use Rattle.std.proofs.Common.{◌≡◌, ℕ, true, is_some, None, arith}
use Rattle.std.proofs.lemmas.Bool.Decides.{nat_tests}
use Rattle.events.specs.declared.marks.Marks.{Marks}
use Rattle.rules.specs.Rule.{Meaning, Lawful}
use Rattle.protocol.proofs.Locking.{requested, busy, clear, Locking, has, waits_for, knows, Invariant, ask_free, ask_held}

module _ (R : Meaning) (L : Lawful R) (A : Locking) (M : ℕ → Marks) (I : Invariant R A M) (a e g : ℕ) (known : ℕ → Marks)
    (at : A.phase a ≡ busy e g known requested) (cl : A.underway a (R.owner g) ≡ clear) where
  -- the lock is free
  pub free-inv : A.holder g ≡ None → Invariant R (ask_free A a e g known) M
  unfolding has waits_for knows
  free-inv u = record {
    sent = I.sent;
    valid = λ s. let h = I.valid s in grind (arith, nat_tests);
    holds = λ t f. let h = I.holds t f in let h2 = I.holds t g in grind (arith, nat_tests);
    apart = λ t f q. let h = I.apart t f q in grind (arith, nat_tests);
    held = λ s f q. let h = I.held s f in grind (arith, nat_tests);
    seen = λ f q. let h = I.seen f q in grind (arith, nat_tests);
    noted = λ t f x. let h = I.noted t f x in grind (arith, nat_tests);
  }

  -- it is held
  pub held-inv : is_some (A.holder g) ≡ true → Invariant R (ask_held A a e g known) M
  unfolding has waits_for knows
  held-inv u = record {
    sent = I.sent;
    valid = λ s. let h = I.valid s in grind (arith, nat_tests);
    holds = λ t f. let h = I.holds t f in grind (arith, nat_tests);
    apart = λ t f q. let h = I.apart t f q in grind (arith, nat_tests);
    held = λ s f q. let h = I.held s f in grind (arith, nat_tests);
    seen = λ f q. let h = I.seen f q in grind (arith, nat_tests);
    noted = λ t f x. let h = I.noted t f x in grind (arith, nat_tests);
  }
