-- The lowest number that passes a test.
use Rattle.std.specs.Prelude.{◌≡◌, ℕ, zero, suc, ◌<◌, Bool, true, false, Some, None, Option, MatchOption, refl}
use Rattle.std.proofs.Common.{sym, ap₂, ◌∙◌, arith}
use Rattle.events.specs.Members.{member, NoMember, LowestMember}
use Rattle.rules.specs.Semantics.{lowest, lowest_step}

-- what the lowest number below n that passes p tells
abbrev pub Tells : (ℕ → Bool) → ℕ → Option ℕ → Type 0
Tells p n None = (j : ℕ) → j < n → p j ≡ false
Tells p n (Some k) = (p k ≡ true) × (k < n) × ((j : ℕ) → j < k → p j ≡ false)

step-tells : (p : ℕ → Bool) (n : ℕ) (o : Option ℕ) (b : Bool) → p n ≡ b → Tells p n o → Tells p (suc n) (lowest_step o b n)
step-tells p n (Some k) b e t = (t.0, omega (arith, t.1), t.2)
step-tells p n None true e t = (e, omega arith, t)
step-tells p n None false e t = λ j h. grind (arith, t)

pub lowest-tells : (p : ℕ → Bool) (n : ℕ) → Tells p n (lowest p n)
unfolding lowest
lowest-tells p zero = λ j h. absurd (omega arith)
lowest-tells p (suc n) = step-tells p n (lowest p n) (p n) refl (lowest-tells p n)

pub lowest-same : (p q : ℕ → Bool) (n : ℕ) → ((j : ℕ) → p j ≡ q j) → lowest p n ≡ lowest q n
unfolding lowest
lowest-same p q zero h = refl
lowest-same p q (suc n) h = ap₂ (λ o b. lowest_step o b n) (lowest-same p q n h) (h n)

only_one : (p : ℕ → Bool) (n : ℕ) (o : Option ℕ) → Tells p n o → (k : ℕ) → p k ≡ true → k < n → ((j : ℕ) → j < k → p j ≡ false) → o ≡ Some k
only_one p n None h k q l m = let z = h k l in grind arith
only_one p n (Some u) h k q l m = let z = h.0 in let y = h.2 k in let x = m u in grind arith

-- a number that passes where none below it does is the lowest
pub lowest-is : (p : ℕ → Bool) (n k : ℕ) → p k ≡ true → k < n → ((j : ℕ) → j < k → p j ≡ false) → lowest p n ≡ Some k
lowest-is p n = only_one p n (lowest p n) (lowest-tells p n)

only_none : (p : ℕ → Bool) (n : ℕ) (o : Option ℕ) → Tells p n o → ((j : ℕ) → p j ≡ false) → o ≡ None
only_none p n None h z = refl
only_none p n (Some u) h z = let y = h.0 in let x = z u in grind arith

pub lowest-none : (p : ℕ → Bool) (n : ℕ) → ((j : ℕ) → p j ≡ false) → lowest p n ≡ None
lowest-none p n = only_none p n (lowest p n) (lowest-tells p n)

-- the lowest member of a set whose members are the numbers that pass
pub lowest-member : (p : ℕ → Bool) (n set : ℕ) (o : Option ℕ) → ((k : ℕ) → member set k ≡ p k) → ((k : ℕ) → p k ≡ true → k < n) → MatchOption o (NoMember set) (λ k. LowestMember 64 set k) → o ≡ lowest p n
lowest-member p n set None same within h = sym (lowest-none p n (λ j. sym (same j) ∙ h j))
lowest-member p n set (Some k) same within h =
    let t : p k ≡ true = sym (same k) ∙ h.here in
    sym (lowest-is p n k t (within k t) (λ j l. sym (same j) ∙ h.least j l))
