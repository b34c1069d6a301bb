-- With no message under way every station rests and every lock is free.
use Rattle.std.proofs.Common.{◌≡◌, ℕ, zero, suc, ◌+◌, ◌<◌, ◌≤◌, true, List, [], ◌++◌, is_some, Some, None, Option, sym, refl, ap, ◌∙◌, arith}
use Rattle.std.proofs.lemmas.Bool.Decides.{nat_tests}
use Rattle.events.specs.declared.marks.Marks.{Marks}
use Rattle.lines.specs.declared.note.Note.{Note}
use Rattle.rules.specs.Rule.{Meaning, Lawful}
use Rattle.protocol.specs.Sites.{Site}
use Rattle.protocol.proofs.Locking.{requested, waits, given, Phase, idle, busy, Settling, clear, Locking, has, waits_for, Invariant}
use Rattle.protocol.proofs.LockingSettle.{waits_in}
use Rattle.protocol.proofs.Shows.{others, grant_list, ask_list, settle_list, Shows}

-- With no message under way nobody asks and nobody is granted; a station that waits would wait for one that waits for a higher event.
abbrev pub OnlyWaits : Phase → Type 0
OnlyWaits idle = Unit {0}
OnlyWaits (busy e g known requested) = ⊥
OnlyWaits (busy e g known waits) = Unit {0}
OnlyWaits (busy e g known (given x)) = ⊥

quiet-settle : (t : Settling) (l : List (Option Note)) → [] ≡ settle_list t ++ l → t ≡ clear
quiet-settle t l h = grind arith

quiet-phase : (R : Meaning) (p : Phase) → ((b : ℕ) → [] ≡ ask_list R p b) → ((a : ℕ) → [] ≡ grant_list R p a) → OnlyWaits p
quiet-phase R (busy e g known requested) h k = let z = h (R.owner g) in grind (arith, nat_tests)
quiet-phase R (busy e g known (given x)) h k = let z = k (R.owner g) in grind (arith, nat_tests)
quiet-phase R p h k = tt

has-waits : (R : Meaning) (p : Phase) (f : ℕ) → OnlyWaits p → has R p f ≡ true → (g : ℕ) × (f < g) × (waits_for R p g ≡ true)
unfolding has waits_for
has-waits R (busy e g known waits) f k h = (g, grind (arith, nat_tests), grind (arith, nat_tests))
has-waits R p f k h = absurd (grind arith)

some_of : (o : Option ℕ) → is_some o ≡ true → (t : ℕ) × (o ≡ Some t)
some_of None h = grind arith
some_of (Some t) h = (t, refl)

waits-idle : (R : Meaning) (p : Phase) → OnlyWaits p → ((f : ℕ) → waits_for R p f ≡ true → ⊥) → p ≡ idle
unfolding waits_for
waits-idle R idle k h = refl
waits-idle R (busy e g known waits) k h = absurd (h g (grind (arith, nat_tests)))
waits-idle R p k h = absurd k

module _ (R : Meaning) (L : Lawful R) (A : Locking) (M : ℕ → Marks) (I : Invariant R A M) (cl : (a b : ℕ) → A.underway a b ≡ clear)
    (pk : (s : ℕ) → OnlyWaits (A.phase s)) where
  no-waiting : (n s f : ℕ) → R.events ≤ n + f → waits_for R (A.phase s) f ≡ true → ⊥
  no-waiting zero s f l w = let i = waits_in R L s f (A.phase s) (I.valid s) w in omega arith
  no-waiting (suc n) s f l w =
      let o = some_of (A.holder f) (I.held s f w) in
      let h = I.holds o.0 f in let c = cl o.0 (R.owner f) in let e = o.1 in
      let z : has R (A.phase o.0) f ≡ true = grind (arith, nat_tests) in
      let k = has-waits R (A.phase o.0) f (pk o.0) z in
      no-waiting n o.0 k.0 (omega arith) k.2

  pub all-idle : (s : ℕ) → A.phase s ≡ idle
  all-idle s = waits-idle R (A.phase s) (pk s) (λ f. no-waiting R.events s f (omega arith))

  pub all-free : (f : ℕ) → A.holder f ≡ None
  unfolding has
  all-free f = go (A.holder f) refl
    where
      go : (o : Option ℕ) → A.holder f ≡ o → A.holder f ≡ None
      go None h = h
      go (Some t) h = let i = I.holds t f in let j = all-idle t in let k = cl t (R.owner f) in grind (arith, nat_tests)

module _ (R : Meaning) (S : Site) (A : Locking) (r : Shows R S A) (q : (a b : ℕ) → S.waits a b ≡ []) where
  pub quiet-clear : (a b : ℕ) → A.underway a b ≡ clear
  quiet-clear a b = quiet-settle (A.underway a b) (ask_list R (A.phase a) b) (sym (ap others (q a b)) ∙ r.others_of a b)

  pub quiet-waits : (s : ℕ) → OnlyWaits (A.phase s)
  quiet-waits s = quiet-phase R (A.phase s)
      (λ b. let h = r.others_of s b in let c = quiet-clear s b in let e = q s b in grind arith)
      (λ a. let h = r.grants_of a s in let e = q a s in grind arith)
