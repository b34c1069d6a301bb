-- A settle keeps the invariant.
use Rattle.std.proofs.Common.{◌≡◌, ℕ, ◌<◌, ◌≤◌, Bool, true, false, cond, not, ◌&&◌, ◌||◌, eqb, ◌⊎◌, is_some, Some, None, Option, refl, inl, inr, arith}
use Rattle.std.proofs.lemmas.Bool.Decides.{nat_tests}
use Rattle.events.specs.declared.marks.Marks.{Marks}
use Rattle.rules.specs.Rule.{Meaning, Lawful}
use Rattle.protocol.specs.Station.{is}
use Rattle.protocol.proofs.Lowest.{lowest-has, lowest_by}
use Rattle.protocol.proofs.Locking.{waits, given, Phase, idle, busy, clear, settling, Locking, has, waits_for, knows, Valid, view, Invariant, frees_lock, next_for, hands_over, marks_after, granting, freed}

pub has-granting : (R : Meaning) (p : ℕ → Bool) (m : ℕ → Marks) (q : Phase) (f : ℕ) → (p f ≡ true → waits_for R q f ≡ true) →
    has R (granting p m q) f ≡ (has R q f || p f)
unfolding has waits_for knows
has-granting R p m q f h = grind (arith, nat_tests)

pub waits-granting : (R : Meaning) (p : ℕ → Bool) (m : ℕ → Marks) (q : Phase) (f : ℕ) → waits_for R (granting p m q) f ≡ (waits_for R q f && not (p f))
unfolding has waits_for knows
waits-granting R p m q f = grind (arith, nat_tests)

knows-granting : (R : Meaning) (p : ℕ → Bool) (m : ℕ → Marks) (q : Phase) (f : ℕ) (x : Marks) → knows R (granting p m q) f x →
    knows R q f x ⊎ ((p f ≡ true) × (m f ≡ x))
unfolding has waits_for knows
knows-granting R p m (busy e g known waits) f x k = go (p g) refl k
  where
    go : (z : Bool) → p g ≡ z → knows R (busy e g known (cond z (given (m g)) waits)) f x →
        knows R (busy e g known waits) f x ⊎ ((p f ≡ true) × (m f ≡ x))
    go true h (inl k) = inl k
    go true h (inr k) = inr (let e = k.0 in let d = k.1 in (grind arith, grind arith))
    go false h k = inl k
knows-granting R p m q f x k = inl k

pub waits_in : (R : Meaning) → Lawful R → (t f : ℕ) (q : Phase) → Valid R t q → waits_for R q f ≡ true → (t < R.stations) × (f < R.events)
unfolding has waits_for knows
waits_in R L t f idle h w = grind arith
waits_in R L t f (busy e g known stage) h w =
    let k = L.owners_are_stations e h.0 in let m = L.locks_events e g h.0 h.2 in let h1 = h.1 in (grind (arith, nat_tests), grind (arith, nat_tests))

module _ (R : Meaning) (L : Lawful R) (eight : R.stations ≤ 8) (A : Locking) (M : ℕ → Marks) (I : Invariant R A M) (a b e : ℕ) (ok : Bool)
    (at : A.underway a b ≡ settling e ok) where
  abbrev N : Locking
  N = freed R A a b e ok

  ev : e < R.events
  ev = let h = I.sent a b in grind arith

  next-by : (f t : ℕ) → is (next_for R A f) t ≡ true → waits_for R (A.phase t) f ≡ true
  next-by f t q = (lowest_by (λ w. waits_for R (A.phase w) f) 8 t q).0

  next-some : (f t : ℕ) → t < R.stations → waits_for R (A.phase t) f ≡ true → is_some (next_for R A f) ≡ true
  next-some f t q w = lowest-has (λ w. waits_for R (A.phase w) f) 8 t (omega arith) w

  passed : (t f : ℕ) → hands_over R A a b t f ≡ true → waits_for R (A.phase t) f ≡ true
  passed t f q = next-by f t (grind (arith, nat_tests))

  freed-has : (t f : ℕ) → has R (N.phase t) f ≡ (has R (A.phase t) f || hands_over R A a b t f)
  freed-has t f = has-granting R (hands_over R A a b t) (marks_after R A b e ok) (A.phase t) f (passed t f)

  freed-waits : (t f : ℕ) → waits_for R (N.phase t) f ≡ (waits_for R (A.phase t) f && not (hands_over R A a b t f))
  freed-waits t f = waits-granting R (hands_over R A a b t) (marks_after R A b e ok) (A.phase t) f

  freed-tells : (f : ℕ) → frees_lock R A a b f ≡ true → (R.owner f ≡ b) × (A.holder f ≡ Some a)
  freed-tells f q = (grind (arith, nat_tests), grind (arith, nat_tests))

  kept-tells : (f : ℕ) → f < R.events → R.owner f ≡ b → frees_lock R A a b f ≡ false → R.locks e f ≡ false
  kept-tells f l o q = let i = I.holds a f in grind (arith, nat_tests)

  next-clear : (f t : ℕ) → R.owner f ≡ b → is (next_for R A f) t ≡ true → N.underway t (R.owner f) ≡ clear
  next-clear f t o q = let w = next-by f t q in let c = I.apart t f in grind (arith, nat_tests)

  seen-freed : (f : ℕ) → f < R.events → frees_lock R A a b f ≡ true → (o : Option ℕ) → next_for R A f ≡ o → M f ≡ view R N o f
  seen-freed f q p None h = let k = freed-tells f p in let i = I.seen f q in let k0 = k.0 in let k1 = k.1 in grind (arith, nat_tests)
  seen-freed f q p (Some t) h =
      let k = freed-tells f p in let i = I.seen f q in let k0 = k.0 in let k1 = k.1 in
      let c = next-clear f t k0 (grind (arith, nat_tests)) in grind (arith, nat_tests)

  seen-kept : (f : ℕ) → f < R.events → frees_lock R A a b f ≡ false → M f ≡ view R N (A.holder f) f
  seen-kept f q p = kept-go (A.holder f) (eqb (R.owner f) b) refl refl
    where
      kept-go : (o : Option ℕ) (z : Bool) → A.holder f ≡ o → eqb (R.owner f) b ≡ z → M f ≡ view R N o f
      kept-go None true h z = let i = I.seen f q in let k = kept-tells f q in let w = L.keeps_others e A.marks f ev in grind (arith, nat_tests)
      kept-go (Some t) true h z = let i = I.seen f q in let k = kept-tells f q in let w = L.keeps_others e A.marks f ev in grind (arith, nat_tests)
      kept-go o false h z = let i = I.seen f q in grind (arith, nat_tests)

  seen-go : (f : ℕ) → f < R.events → (t : Bool) → frees_lock R A a b f ≡ t → M f ≡ view R N (cond t (next_for R A f) (A.holder f)) f
  seen-go f q true p = seen-freed f q p (next_for R A f) refl
  seen-go f q false p = seen-kept f q p

  seen : (f : ℕ) → f < R.events → M f ≡ view R N (N.holder f) f
  seen f q = seen-go f q (frees_lock R A a b f) refl

  noted : (t f : ℕ) (y : Marks) → knows R (N.phase t) f y → y ≡ M f
  noted t f y q = elim (knows-granting R (hands_over R A a b t) (marks_after R A b e ok) (A.phase t) f y q) [
    | inl k ↦ I.noted t f y k
    | inr k ↦
        let p = k.0 in let m = k.1 in let w = passed t f p in let i = waits_in R L t f (A.phase t) (I.valid t) w in
        let z = seen f i.1 in let c = I.apart t f in grind (arith, nat_tests)
  ]

  valid : (t : ℕ) → Valid R t (N.phase t)
  unfolding has waits_for
  valid t = let h = I.valid t in grind (arith, nat_tests)

  pub freed-inv : Invariant R (freed R A a b e ok) M
  freed-inv = record {
    sent = λ t c. let h = I.sent t c in grind (arith, nat_tests);
    valid = valid;
    holds = λ t f.
        rw freed-has (let h = I.holds t f in let h2 = I.holds a f in let c = I.apart a f in let u = L.locks_events e f ev in grind (arith, nat_tests));
    apart = λ t f q. rw (freed-has, freed-waits) (let h = I.apart t f in let k = passed t f in grind (arith, nat_tests));
    held = λ t f q.
        let z = rw freed-waits at q in let h = I.held t f in let i = waits_in R L t f (A.phase t) (I.valid t) in let k = next-some f t in
        grind (arith, nat_tests);
    seen = seen;
    noted = noted;
  }
