-- How the members that pass a test are gathered, lowest first.
use Rattle.std.proofs.Common.{◌≡◌, ℕ, ◌+◌, ◌<◌, ◌≤◌, ◌&&◌, nat_lt, Bool, true, false, refl, sym, ap, subst, ◌∙◌, inl, inr, arith, rules}
use Rattle.std.proofs.lemmas.Bool.{cases_eq, cases_lt, eq-eqb, lt-ltb, ne_eqb}
use Rattle.events.specs.Members.{member, named}

-- a number: whether it is in the set, and among those that passed
abbrev pub Tested : (Bool → Type 0) → Bool → Bool → Type 0
Tested post here passed = (here ≡ true → post passed) × (here ≡ false → passed ≡ false)

-- the numbers below n have been tested, and no other has passed
abbrev pub Gathers : (ℕ → Bool → Type 0) → ℕ → ℕ → ℕ → Type 0
Gathers post set n passed = (k : ℕ) → (k < n → Tested (post k) (member set k) (member passed k)) × (n ≤ k → member passed k ≡ false)

pub starts : (post : ℕ → Bool → Type 0) (set passed : ℕ) → ((k : ℕ) → member passed k ≡ false) → Gathers post set 0 passed
starts post set passed none k = (λ l. absurd (omega arith), λ _. none k)

pub goes_on : (post : ℕ → Bool → Type 0) (set n passed more : ℕ) → Gathers post set n passed → Tested (post n) (member set n) (member more n) → ((k : ℕ) → (k ≡ n → ⊥) → member more k ≡ member passed k) → Gathers post set (n + 1) more
goes_on post set n passed more before tested same k = elim (cases_eq k n) [
  | inl is ↦ (λ l. subst (λ m. Tested (post m) (member set m) (member more m)) (sym is) tested, λ l. absurd (omega arith))
  | inr other ↦ rw (same k other) (λ l. (before k).0 (omega arith), λ l. (before k).1 (omega arith))
]

-- the walk went to the end of the word that the set is, past which there is no member
pub all-tested : (post : ℕ → Bool → Type 0) (set word n end passed : ℕ) → Gathers post set n passed → word ≡ set → ((k : ℕ) → end ≤ k → member word k ≡ false) → end ≤ n → (k : ℕ) → Tested (post k) (member set k) (member passed k)
all-tested post set word n end passed gathers same past walked k = elim (cases_lt k n) [
  | inl l ↦ (gathers k).0 l
  | inr l ↦
      let out : member set k ≡ false = ap (λ s. member s k) (sym same) ∙ past k (omega arith) in
      (λ here. absurd (let z = sym here ∙ out in search rules), λ _. (gathers k).1 l)
]

pub named-itself : (width e : ℕ) → e < width → named width e e ≡ true
named-itself width e below = ap (λ b. b && nat_lt e width) (eq-eqb e e refl) ∙ lt-ltb e width below

pub named-other : (width e k : ℕ) → (k ≡ e → ⊥) → named width e k ≡ false
named-other width e k other = ap (λ b. b && nat_lt e width) (ne_eqb k e other)
