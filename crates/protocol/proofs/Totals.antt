-- Sums over the numbers below a limit.
use Rattle.std.proofs.Common.{◌≡◌, ℕ, zero, suc, ◌+◌, ◌*◌, ◌<◌, ◌≤◌, Bool, refl, ap, inl, inr, mul-suc, arith}
use Rattle.std.proofs.lemmas.Bool.{cases_eq}
use Rattle.protocol.specs.Costs.{total, one, count}

pub total-below : (p q : ℕ → ℕ) (n : ℕ) → ((k : ℕ) → k < n → p k ≡ q k) → total p n ≡ total q n
total-below p q zero h = refl
total-below p q (suc n) h = let i = total-below p q n (λ k l. h k (omega arith)) in let j = h n (omega arith) in omega arith

pub total_ext : (p q : ℕ → ℕ) (n : ℕ) → ((k : ℕ) → q k ≡ p k) → total q n ≡ total p n
total_ext p q n h = total-below q p n (λ k l. h k)

-- two sums that differ at one place
pub total-at : (p q : ℕ → ℕ) (n i : ℕ) → ((k : ℕ) → (k ≡ i → ⊥) → q k ≡ p k) → i < n → total q n + p i ≡ total p n + q i
total-at p q zero i h l = absurd (omega arith)
total-at p q (suc n) i h l = elim (cases_eq n i) [
  | inl e ↦ let r = total-below q p n (λ k l. h k (omega arith)) in let a = ap p e in let b = ap q e in omega arith
  | inr e ↦ let r = total-at p q n i h (omega arith) in let j = h n e in omega arith
]

pub total-add : (p q : ℕ → ℕ) (n : ℕ) → total (λ k. p k + q k) n ≡ total p n + total q n
total-add p q zero = refl
total-add p q (suc n) = let i = total-add p q n in omega arith

pub total-zero : (p : ℕ → ℕ) (n : ℕ) → ((k : ℕ) → p k ≡ 0) → total p n ≡ 0
total-zero p zero h = refl
total-zero p (suc n) h = let i = total-zero p n h in let j = h n in omega arith

pub zero-total : (p : ℕ → ℕ) (n : ℕ) → total p n ≡ 0 → (k : ℕ) → k < n → p k ≡ 0
zero-total p zero h k l = absurd (omega arith)
zero-total p (suc n) h k l = elim (cases_eq k n) [
  | inl e ↦ let a = ap p e in omega arith
  | inr e ↦ zero-total p n (omega arith) k (omega arith)
]

-- a sum of numbers that are at most c
pub total-most : (p : ℕ → ℕ) (c n : ℕ) → ((k : ℕ) → p k ≤ c) → total p n ≤ c * n
total-most p c zero h = omega arith
total-most p c (suc n) h = let i = total-most p c n h in let j = h n in let s = mul-suc c n in omega arith

pub count-few : (p : ℕ → Bool) (n : ℕ) → count p n ≤ n
count-few p n = let t = total-most (λ k. one (p k)) 1 n (λ k. grind arith) in omega arith
