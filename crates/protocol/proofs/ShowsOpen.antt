-- A request at a site is a request of the model without queues.
use Rattle.std.proofs.Common.{◌≡◌, ℕ, Bool, false, ◌&&◌, ltb, Some, ap, arith}
use mathlib.Core.Path.{fun_ext}
use Rattle.std.proofs.lemmas.Bool.Decides.{nat_tests}
use Rattle.events.specs.Marks.{unmarked}
use Rattle.rules.specs.Rule.{Meaning}
use Rattle.rules.specs.Lowest.{Tells}
use Rattle.protocol.specs.Station.{Request, asking, begins}
use Rattle.protocol.specs.Queues.{post_all}
use Rattle.protocol.specs.Sites.{Site, moved}
use Rattle.protocol.proofs.Locking.{idle, Locking, waits_for, begun}
use Rattle.protocol.proofs.Shows.{grants-app, others-app, Shows}

module _ (R : Meaning) (S : Site) (A : Locking) (r : Shows R S A) (s e g : ℕ) (at : A.phase s ≡ idle)
    (lo : Tells (R.locks e) R.events (Some g)) where
  none_yet : asking e (λ _. false) (λ _. unmarked) ≡ asking e (λ f. R.locks e f && ltb f g) (λ _. unmarked)
  none_yet = ap {B = Request} (λ (h : ℕ → Bool). asking e h (λ _. unmarked)) (fun_ext λ f. let l = lo.2 f in grind (arith, nat_tests))

  pub begun-shows : Shows R (moved S S.waits s (begins R (S.station s) e (Some g))) (begun A s e g (λ _. unmarked))
  unfolding waits_for post_all
  begun-shows = record {
    marks = λ k. let h = r.marks k in grind (arith, nat_tests);
    requests = λ t. let h = r.requests t in let n = none_yet in grind (arith, nat_tests);
    holders = λ k. let h = r.holders k in grind (arith, nat_tests);
    waiters = λ k t. let h = r.waiters k t in grind (arith, nat_tests);
    grants_of = λ x y. let h = r.grants_of x y in grind (arith, nat_tests, grants-app);
    others_of = λ x y. let h = r.others_of x y in grind (arith, nat_tests, others-app);
  }
