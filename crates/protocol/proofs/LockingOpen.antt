-- A request keeps the invariant.
use Rattle.std.proofs.Common.{◌≡◌, ℕ, ◌<◌, Some, arith}
use Rattle.std.proofs.lemmas.Bool.Decides.{nat_tests}
use Rattle.events.specs.declared.marks.Marks.{Marks}
use Rattle.rules.specs.Rule.{Meaning, Lawful}
use Rattle.rules.specs.Lowest.{Tells}
use Rattle.protocol.proofs.Locking.{idle, Locking, has, waits_for, knows, Invariant, begun}

module _ (R : Meaning) (L : Lawful R) (A : Locking) (M : ℕ → Marks) (I : Invariant R A M) (s e g : ℕ) (known : ℕ → Marks)
    (at : A.phase s ≡ idle) (lo : Tells (R.locks e) R.events (Some g)) (lt : e < R.events) (ow : R.owner e ≡ s) where
  pub begun-inv : Invariant R (begun A s e g known) M
  unfolding has waits_for knows
  begun-inv = record {
    sent = I.sent;
    valid = λ t. let h = I.valid t in let l = lo.0 in grind (arith, nat_tests);
    holds = λ t f. let h = I.holds t f in let l = lo.2 f in grind (arith, nat_tests);
    apart = λ t f q. let h = I.apart t f q in let l = lo.2 f in grind (arith, nat_tests);
    held = λ t f q. let h = I.held t f in grind (arith, nat_tests);
    seen = λ f q. let h = I.seen f q in grind (arith, nat_tests);
    noted = λ t f x. let h = I.noted t f x in let l = lo.2 f in grind (arith, nat_tests);
  }
