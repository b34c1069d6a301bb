-- A settle at a site is a settle of the model without queues.
use Rattle.std.proofs.Common.{◌≡◌, ℕ, zero, suc, ◌<◌, Bool, true, false, cond, not, ◌&&◌, eqb, ltb, List, [], ◌∷◌, ◌++◌, Option, sym, refl, ap, ◌∙◌, arith, Some}
use mathlib.Core.Path.{fun_ext}
use Rattle.std.proofs.lemmas.Bool.Decides.{nat_tests}
use Rattle.events.specs.declared.marks.Marks.{Marks}
use Rattle.lines.specs.declared.note.Note.{Note}
use Rattle.lines.specs.declared.note.Note.TheVariants.{Grant, Settle}
use Rattle.rules.specs.Rule.{Meaning, Lawful}
use Rattle.rules.specs.Semantics.{lowest}
use Rattle.protocol.specs.Station.{Station, put_pair, is, marked, next, frees, hands, settled}
use Rattle.protocol.specs.Sites.{Site, moved}
use Rattle.protocol.proofs.Lowest.{lowest_by}
use Rattle.protocol.proofs.Locking.{waits, Phase, busy, settling, Locking, waits_for, Valid, next_for, hands_over, marks_after, granting, freed}
use Rattle.protocol.proofs.LockingSettle.{waits-granting}
use Rattle.protocol.proofs.Posts.{post-all, grants, sent-hands}
use Rattle.protocol.proofs.Shows.{only_grants, others, grants-app, others-app, request_of, grant_list, ask_list, settle_list, Shows}

-- the grants of a list of grants
others-grants : (p : ℕ → Bool) (m : ℕ → Marks) (n : ℕ) → others (grants p m n) ≡ []
others-grants p m zero = refl
others-grants p m (suc n) = let h = others-grants p m n in grind (arith, nat_tests, others-app)

only-grants : (p : ℕ → Bool) (m : ℕ → Marks) (n : ℕ) → only_grants (grants p m n) ≡ grants p m n
only-grants p m zero = refl
only-grants p m (suc n) = let h = only-grants p m n in grind (arith, nat_tests, grants-app)

-- none passes
grants-none : (p : ℕ → Bool) (m : ℕ → Marks) (n : ℕ) → ((k : ℕ) → p k ≡ false) → grants p m n ≡ []
grants-none p m zero h = refl
grants-none p m (suc n) h = let i = grants-none p m n h in let j = h n in grind (arith, nat_tests)

-- one passes at most
grants-one : (p : ℕ → Bool) (m : ℕ → Marks) (n g : ℕ) → ((k : ℕ) → p k ≡ true → k ≡ g) → grants p m n ≡ cond (p g && ltb g n) (Some (Grant g (m g)) ∷ []) []
grants-one p m zero g h = grind (arith, nat_tests)
grants-one p m (suc n) g h = let i = grants-one p m n g h in let j = h n in grind (arith, nat_tests)

request-granting : (R : Meaning) (p : ℕ → Bool) (m : ℕ → Marks) (q : Phase) → request_of R (granting p m q) ≡ request_of R q
request-granting R p m q = grind arith

ask-granting : (R : Meaning) (p : ℕ → Bool) (m : ℕ → Marks) (q : Phase) (b : ℕ) → ask_list R (granting p m q) b ≡ ask_list R q b
ask-granting R p m q b = grind (arith, nat_tests)

not-both : (p x : Bool) → cond p false x ≡ (x && not p)
not-both p x = grind arith

granted-one : (R : Meaning) → Lawful R → (b u y : ℕ) (q : Phase) → Valid R y q → (p p' : ℕ → Bool) (m m' : ℕ → Marks) →
    ((f : ℕ) → p' f ≡ p f) → ((f : ℕ) → p f ≡ true → waits_for R q f ≡ true) →
    ((f : ℕ) → p f ≡ true → R.owner f ≡ b) → ((f : ℕ) → R.owner f ≡ b → m' f ≡ m f) →
    cond (eqb u b) (grant_list R q u ++ grants p' m' R.events) (grant_list R q u) ≡ grant_list R (granting p m q) u
unfolding waits_for
granted-one R L b u y (busy e g known waits) fi p p' m m' ps ws os ms =
    let n = grants-one p' m' R.events g (λ k h. let w = ws k in let z = ps k in grind (arith, nat_tests)) in
    let i = L.locks_events e g fi.0 fi.2 in let o = os g in let k = ms g in let z = ps g in grind (arith, nat_tests)
granted-one R L b u y q fi p p' m m' ps ws os ms =
    let n = grants-none p' m' R.events (λ k. let w = ws k in let z = ps k in grind (arith, nat_tests)) in grind (arith, nat_tests)

module _ (R : Meaning) (L : Lawful R) (S : Site) (A : Locking) (r : Shows R S A) (valid : (s : ℕ) → Valid R s (A.phase s)) (a b e : ℕ)
    (ok : Bool) (q : List (Option Note)) (hd : S.waits a b ≡ Some (Settle e ok) ∷ q) (at : A.underway a b ≡ settling e ok) (ev : e < R.events)
    (em : others q ≡ ask_list R (A.phase a) b) where
  abbrev P : Station
  P = S.station b

  abbrev Q : ℕ → ℕ → List (Option Note)
  Q = put_pair S.waits a b q

  abbrev S' : Site
  S' = moved S (put_pair S.waits a b q) b (settled R (S.station b) a b e ok)

  abbrev A' : Locking
  A' = freed R A a b e ok

  abbrev hands_to : ℕ → ℕ → Bool
  hands_to w f = frees R P a b f && is (next P f) w

  abbrev G : ℕ → List (Option Note)
  G y = grants (hands_to y) (marked R P b e ok) R.events

  same_next : (f : ℕ) → R.owner f ≡ b → next P f ≡ next_for R A f
  same_next f o = ap {B = Option ℕ} (λ (p : ℕ → Bool). lowest p 8) (fun_ext λ w. let h = r.waiters f w in cc)

  same-handing : (w f : ℕ) → hands_to w f ≡ hands_over R A a b w f
  same-handing w f = let h = same_next f in let i = r.holders f in grind (arith, nat_tests)

  marks : (f : ℕ) → (S'.station (R.owner f)).marks f ≡ A'.marks f
  marks f = let h = r.marks f in let l = L.acts_on_each e (S.station b).marks A.marks f ev in grind (arith, nat_tests)

  waiters : (f w : ℕ) → (S'.station (R.owner f)).waiting f w ≡ waits_for R (A'.phase w) f
  waiters f w =
      let waited : (S'.station (R.owner f)).waiting f w ≡ cond (hands_over R A a b w f) false (waits_for R (A.phase w) f) =
      let h = same-handing w f in let i = r.waiters f w in grind (arith, nat_tests) in
      waited
      ∙ not-both (hands_over R A a b w f) (waits_for R (A.phase w) f)
      ∙ sym (waits-granting R (hands_over R A a b w) (marks_after R A b e ok) (A.phase w) f)

  requests : (w : ℕ) → (S'.station w).request ≡ request_of R (A'.phase w)
  requests w =
      (let k : (S'.station w).request ≡ (S.station w).request = grind (arith, nat_tests) in k)
      ∙ r.requests w
      ∙ sym (request-granting R (hands_over R A a b w) (marks_after R A b e ok) (A.phase w))

  popped-others : (u y : ℕ) (G : List (Option Note)) → others G ≡ [] →
      others (cond (eqb u b) (Q u y ++ G) (Q u y)) ≡ settle_list (A'.underway u y) ++ ask_list R (A.phase u) y
  popped-others u y G g = let h = r.others_of u y in let h2 = r.others_of a b in grind (arith, nat_tests, others-app)

  popped-grants : (u y : ℕ) (G : List (Option Note)) → only_grants G ≡ G →
      only_grants (cond (eqb u b) (Q u y ++ G) (Q u y)) ≡ cond (eqb u b) (grant_list R (A.phase y) u ++ G) (grant_list R (A.phase y) u)
  popped-grants u y G g = let h = r.grants_of u y in let h2 = r.grants_of a b in grind (arith, nat_tests, grants-app)

  queue-is : (u y : ℕ) → S'.waits u y ≡ cond (eqb u b) (Q u y ++ G y) (Q u y)
  queue-is u y = post-all Q b (hands (frees R P a b) (next P) (marked R P b e ok) R.events) u y
      ∙ ap {B = List (Option Note)} (λ (l : List (Option Note)). cond (eqb u b) (Q u y ++ l) (Q u y))
      (sent-hands (frees R P a b) (next P) (marked R P b e ok) R.events y)

  others_of : (u y : ℕ) → others (S'.waits u y) ≡ settle_list (A'.underway u y) ++ ask_list R (A'.phase u) y
  others_of u y =
      ap others (queue-is u y)
      ∙ rw (ask-granting R (hands_over R A a b u) (marks_after R A b e ok) (A.phase u) y)
      (popped-others u y (G y) (others-grants (hands_to y) (marked R P b e ok) R.events))

  grants_of : (u y : ℕ) → only_grants (S'.waits u y) ≡ grant_list R (A'.phase y) u
  grants_of u y =
      ap only_grants (queue-is u y)
      ∙ popped-grants u y (G y) (only-grants (hands_to y) (marked R P b e ok) R.events)
      ∙ granted-one R L b u y (A.phase y) (valid y) (hands_over R A a b y) (hands_to y) (marks_after R A b e ok) (marked R P b e ok) (same-handing y)
      (λ f h. (lowest_by (λ w. waits_for R (A.phase w) f) 8 y (grind (arith, nat_tests))).0)
      (λ f h. grind (arith, nat_tests))
      (λ f h. let i = marks f in grind (arith, nat_tests))

  pub freed-shows : Shows R (moved S (put_pair S.waits a b q) b (settled R (S.station b) a b e ok)) (freed R A a b e ok)
  freed-shows = record { marks = marks; requests = requests; holders = λ f. let h = same_next f in let i = r.holders f in grind (arith, nat_tests); waiters = waiters; grants_of = grants_of; others_of = others_of }
