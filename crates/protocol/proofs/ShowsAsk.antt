-- An ask at a site is an ask of the model without queues.
use Rattle.std.proofs.Common.{◌≡◌, ℕ, List, [], ◌∷◌, Some, None, arith, Option}
use Rattle.std.proofs.lemmas.Bool.Decides.{nat_tests}
use Rattle.events.specs.declared.marks.Marks.{Marks}
use Rattle.lines.specs.declared.note.Note.{Note}
use Rattle.lines.specs.declared.note.Note.TheVariants.{Ask}
use Rattle.rules.specs.Rule.{Meaning}
use Rattle.protocol.specs.Station.{put_pair, asks}
use Rattle.protocol.specs.Queues.{post_all}
use Rattle.protocol.specs.Sites.{Site, moved}
use Rattle.protocol.proofs.Locking.{requested, busy, clear, Locking, waits_for, ask_free, ask_held}
use Rattle.protocol.proofs.Shows.{others, grants-app, others-app, Shows}

module _ (R : Meaning) (S : Site) (A : Locking) (r : Shows R S A) (a b e f : ℕ) (known : ℕ → Marks) (q : List (Option Note))
    (hd : S.waits a b ≡ Some (Ask f) ∷ q) (at : A.phase a ≡ busy e f known requested) (cl : A.underway a b ≡ clear) (ow : R.owner f ≡ b)
    (em : others q ≡ []) where
  pub free-shows : Shows R (moved S (put_pair S.waits a b q) b (asks (S.station b) a f None)) (ask_free A a e f known)
  unfolding waits_for post_all
  free-shows = record {
    marks = λ k. let h = r.marks k in grind (arith, nat_tests);
    requests = λ s. let h = r.requests s in grind (arith, nat_tests);
    holders = λ k. let h = r.holders k in grind (arith, nat_tests);
    waiters = λ k s. let h = r.waiters k s in grind (arith, nat_tests);
    grants_of = λ x y. let h = r.grants_of x y in let h2 = r.grants_of a b in let m = r.marks f in grind (arith, nat_tests, grants-app);
    others_of = λ x y. let h = r.others_of x y in let h2 = r.others_of a b in grind (arith, nat_tests, others-app);
  }

  pub held-shows : (t : ℕ) → Shows R (moved S (put_pair S.waits a b q) b (asks (S.station b) a f (Some t))) (ask_held A a e f known)
  unfolding waits_for post_all
  held-shows t = record {
    marks = λ k. let h = r.marks k in grind (arith, nat_tests);
    requests = λ s. let h = r.requests s in grind (arith, nat_tests);
    holders = λ k. let h = r.holders k in grind (arith, nat_tests);
    waiters = λ k s. let h = r.waiters k s in grind (arith, nat_tests);
    grants_of = λ x y. let h = r.grants_of x y in let h2 = r.grants_of a b in grind (arith, nat_tests, grants-app);
    others_of = λ x y. let h = r.others_of x y in let h2 = r.others_of a b in grind (arith, nat_tests, others-app);
  }
