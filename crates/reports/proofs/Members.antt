-- The members of a set are its lowest one and then those of the set without it.
use Rattle.std.proofs.Common.{◌≡◌, ℕ, zero, suc, ◌+◌, ◌<◌, ◌≤◌, Bool, true, false, cond, ◌==◌, [], ◌∷◌, filter, refl, sym, ap, ◌∙◌, inl, inr, arith}
use Rattle.std.specs.List.{range_with_len}
use Rattle.std.proofs.lemmas.Bool.{cases_lt, cond-false, cond-true, eq-eqb, ne_eqb}
use Rattle.events.specs.Members.{member, NoMember, LowestMember}
use Rattle.events.specs.Sets.{EventSet}
use Rattle.reports.specs.Texts.{members_below}

nothing : (p : ℕ → Bool) (a n : ℕ) → ((k : ℕ) → p k ≡ false) → filter p (range_with_len a n) ≡ []
nothing p a zero h = refl
nothing p a (suc n) h = rw (h a) (nothing p (a + 1) n h)

same : (p q : ℕ → Bool) (a n : ℕ) → ((k : ℕ) → a ≤ k → p k ≡ q k) → filter p (range_with_len a n) ≡ filter q (range_with_len a n)
same p q a zero h = refl
same p q a (suc n) h =
    let rest = same p q (a + 1) n (λ k l. h k (omega arith)) in
    let here : p a ≡ q a = h a (omega arith) in
    λ i. cond (here i) (a ∷ rest i) (rest i)

cond-same : (b : Bool) → cond b false false ≡ false
cond-same true = refl
cond-same false = refl

first : (p q : ℕ → Bool) (e a n : ℕ) → a ≤ e → e < a + n → p e ≡ true → ((k : ℕ) → k < e → p k ≡ false) → ((k : ℕ) → q k ≡ cond (k == e) false (p k)) → filter p (range_with_len a n) ≡ e ∷ filter q (range_with_len a n)
first p q e a zero l u h none left = absurd (omega arith)
first p q e a (suc n) l u h none left = elim (cases_lt a e) [
  | inl lt ↦
      let later = first p q e (a + 1) n (omega arith) (omega arith) h none left in
      let out : p a ≡ false = none a lt in
      let out' : q a ≡ false = left a ∙ ap (cond (a == e) false) out ∙ cond-same (a == e) in
      rw (out, out') later
  | inr ge ↦
      let here : a ≡ e = omega arith in
      let rest = same q p (a + 1) n (λ k m. left k ∙ cond-false (k == e) false (p k) (ne_eqb k e (omega arith))) in
      let in' : p a ≡ true = ap p here ∙ h in
      let out : q a ≡ false = left a ∙ cond-true (a == e) false (p a) (eq-eqb a e here) in
      rw (in', out) (λ i. here i ∷ sym rest i)
]

pub none-below : (s : EventSet) (n : ℕ) → NoMember s.bits → members_below s n ≡ []
unfolding members_below
none-below s n h = nothing (λ e. member s.bits e) 0 n h

pub lowest-first : (s t : EventSet) (e : ℕ) → LowestMember 64 s.bits e → ((k : ℕ) → member t.bits k ≡ cond (k == e) false (member s.bits k)) → members_below s 64 ≡ e ∷ members_below t 64
unfolding members_below
lowest-first s t e low left = first (λ k. member s.bits k) (λ k. member t.bits k) e 0 64 (omega arith) (omega (arith, low.below)) low.here low.least left
