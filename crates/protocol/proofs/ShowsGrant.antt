-- A grant at a site is a grant of the model without queues.
use Rattle.std.proofs.Common.{◌≡◌, ℕ, ◌<◌, Bool, true, false, cond, ◌&&◌, eqb, ltb, List, [], ◌∷◌, ◌++◌, Some, None, ap, ◌∙◌, append-nil, arith, Option}
use mathlib.Core.Path.{fun_ext}
use Rattle.std.proofs.lemmas.Bool.Decides.{nat_tests}
use Rattle.std.proofs.lemmas.Bool.{lt-ltb}
use Rattle.events.specs.declared.marks.Marks.{Marks}
use Rattle.lines.specs.declared.note.Note.{Note}
use Rattle.lines.specs.declared.note.Note.TheVariants.{Grant, Settle}
use Rattle.rules.specs.Answers.{accepted}
use Rattle.rules.specs.Rule.{Meaning}
use Rattle.protocol.specs.Station.{Request, asking, put, put_pair, concerned, to_each, goes_on, had_more}
use Rattle.protocol.specs.Queues.{post_all}
use Rattle.protocol.specs.Sites.{Site, moved}
use Rattle.protocol.proofs.Locking.{given, busy, clear, Locking, waits_for, more, done}
use Rattle.protocol.proofs.Posts.{post-all, sent-each}
use Rattle.protocol.proofs.Shows.{only_grants, grants-app, others-app, Shows}

once : (X : List (Option Note)) (m : Note) (u c l : Bool) → (c ≡ true → l ≡ true) → cond u (X ++ cond (c && l) (Some m ∷ []) []) X ≡ cond (u && c) (X ++ (Some m ∷ [])) X
once X m u c l h = let n = append-nil X in grind arith

module _ (R : Meaning) (S : Site) (A : Locking) (r : Shows R S A) (a b e f : ℕ) (x : Marks) (known : ℕ → Marks) (q : List (Option Note))
    (hd : S.waits a b ≡ Some (Grant f x) ∷ q) (at : A.phase b ≡ busy e f known (given x)) (ow : R.owner f ≡ a) (em : only_grants q ≡ [])
    (lk : R.locks e f ≡ true) where
  abbrev had : ℕ → Bool
  had k = R.locks e k && ltb k f

  module _ (g' : ℕ) (up : f < g') (gap : (j : ℕ) → f < j → j < g' → R.locks e j ≡ false) where
    noted_more : asking e (had_more had f) (put known f x) ≡ asking e (λ k. R.locks e k && ltb k g') (put known f x)
    noted_more = ap {B = Request} (λ (h : ℕ → Bool). asking e h (put known f x)) (fun_ext λ k. let l = gap k in grind (arith, nat_tests))

    pub more-shows : Shows R (moved S (put_pair S.waits a b q) b (goes_on R (S.station b) e (had_more had f) (put known f x) (Some g')))
        (more A b e f x g' known)
    unfolding waits_for post_all
    more-shows = record {
      marks = λ k. let h = r.marks k in grind (arith, nat_tests);
      requests = λ t. let h = r.requests t in let n = noted_more in grind (arith, nat_tests);
      holders = λ k. let h = r.holders k in grind (arith, nat_tests);
      waiters = λ k t. let h = r.waiters k t in grind (arith, nat_tests);
      grants_of = λ u y. let h = r.grants_of u y in let h2 = r.grants_of a b in grind (arith, nat_tests, grants-app);
      others_of = λ u y. let h = r.others_of u y in let h2 = r.others_of a b in grind (arith, nat_tests, others-app);
    }

  module _ (clr : (c : ℕ) → concerned R e c ≡ true → A.underway b c ≡ clear) (con : (c : ℕ) → concerned R e c ≡ true → c < R.stations)
      (all : ℕ → Bool) (seen : ℕ → Marks) where
    abbrev S2 : Site
    S2 = moved S (put_pair S.waits a b q) b (goes_on R (S.station b) e all seen None)

    queue2 : (u y : ℕ) → S2.waits u y ≡
        cond (eqb u b && concerned R e y) (put_pair S.waits a b q u y ++ (Some (Settle e (accepted (R.decides e seen))) ∷ []))
        (put_pair S.waits a b q u y)
    queue2 u y = post-all (put_pair S.waits a b q) b (to_each (concerned R e) (Settle e (accepted (R.decides e seen))) R.stations) u y
        ∙ rw (sent-each (concerned R e) (Settle e (accepted (R.decides e seen))) R.stations y)
        (once (put_pair S.waits a b q u y) (Settle e (accepted (R.decides e seen))) (eqb u b) (concerned R e y) (ltb y R.stations)
        (λ h. lt-ltb y R.stations (con y h)))

    pub done-shows : Shows R (moved S (put_pair S.waits a b q) b (goes_on R (S.station b) e all seen None))
        (done R A b e (accepted (R.decides e seen)))
    unfolding waits_for
    done-shows = record {
      marks = λ k. let h = r.marks k in grind (arith, nat_tests);
      requests = λ t. let h = r.requests t in grind (arith, nat_tests);
      holders = λ k. let h = r.holders k in grind (arith, nat_tests);
      waiters = λ k t. let h = r.waiters k t in grind (arith, nat_tests);
      grants_of = λ u y. rw (queue2 u y) (let h = r.grants_of u y in let h2 = r.grants_of a b in grind (arith, nat_tests, grants-app));
      others_of = λ u y. rw (queue2 u y) (let h = r.others_of u y in let h2 = r.others_of a b in let c = clr y in grind (arith, nat_tests, others-app));
    }
