-- The set of the events that pass a test.
use Rattle.std.proofs.Common.{◌≡◌, ℕ, zero, suc, ◌+◌, ◌-◌, ◌*◌, ◌/◌, ◌^◌, ◌<◌, ◌≤◌, Bool, true, false, cond, ◌&&◌, ltb, refl, ap, ◌∙◌, inl, inr, pow-suc, arith, pow_pos, pow-add}
use native.Mathlib.Nat.{add-mul-div_right}
use lib.Pow.{high}
use Rattle.std.proofs.lemmas.Bool.Decides.{nat_tests}
use Rattle.std.proofs.lemmas.Bool.{cases_order}
use Rattle.events.specs.Sets.{EventSet}
use Rattle.events.specs.Members.{member}
use Rattle.events.proofs.MemberLaws.{member-past}
use Rattle.protocol.specs.Costs.{total}
use Rattle.protocol.specs.EventSets.{set_of, SetsHold}
use Rattle.protocol.proofs.Totals.{total-below}

pub set_same : (p q : ℕ → Bool) (n : ℕ) → ((k : ℕ) → k < n → p k ≡ q k) → set_of p n ≡ set_of q n
unfolding set_of
set_same p q n h =
    ap {B = EventSet} (λ (b : ℕ). record { bits = b })
    (total-below (λ e. cond (p e) (2 ^ e) 0) (λ e. cond (q e) (2 ^ e) 0) n (λ k l. ap (λ (b : Bool). cond b (2 ^ k) 0) (h k l)))

-- ---- its members

abbrev bits_of : (ℕ → Bool) → ℕ → ℕ
bits_of p n = total (λ e. cond (p e) (2 ^ e) 0) n

bits_below : (p : ℕ → Bool) (n : ℕ) → bits_of p n < 2 ^ n
bits_below p zero = omega arith
bits_below p (suc n) = let h = bits_below p n in let s = pow-suc 2 n in let c : cond (p n) (2 ^ n) 0 ≤ 2 ^ n = grind arith in omega arith

-- one bit more
module _ (b n k : ℕ) (small : b < 2 ^ n) where
  more-below : k < n → member (b + 2 ^ n) k ≡ member b k
  unfolding member
  more-below l =
      let j : ℕ = n - k - 1 in
      let s : 2 ^ n ≡ 2 ^ suc j * 2 ^ k = ap (λ i. 2 ^ i) (omega arith) ∙ pow-add 2 (suc j) k in
      let d : (b + 2 ^ n) / 2 ^ k ≡ b / 2 ^ k + 2 ^ suc j = ap (λ i. (b + i) / 2 ^ k) s ∙ add-mul-div_right b (2 ^ suc j) (pow_pos k) in
      let t = pow-suc 2 j in grind (arith, nat_tests)

  more-here : member (b + 2 ^ n) n ≡ true
  unfolding member
  more-here =
      let o : b + 2 ^ n ≡ 1 * 2 ^ n + b = omega arith in
      let d : (b + 2 ^ n) / 2 ^ n ≡ 1 = ap (λ i. i / 2 ^ n) o ∙ high 1 n small in grind (arith, nat_tests)

set-step : (p : ℕ → Bool) (n k : ℕ) (t : Bool) → p n ≡ t → member (bits_of p n) k ≡ (ltb k n && p k) →
    member (bits_of p n + cond t (2 ^ n) 0) k ≡ (ltb k (suc n) && p k)
set-step p n k false h i = let z : bits_of p n + 0 ≡ bits_of p n = omega arith in let y = ap (λ b. member b k) z in grind (arith, nat_tests)
set-step p n k true h i = let small = bits_below p n in elim (cases_order k n) [
  | inl q ↦ let m = more-here (bits_of p n) n k small in grind (arith, nat_tests)
  | inr (inl l) ↦ let m = more-below (bits_of p n) n k small l in grind (arith, nat_tests)
  | inr (inr l) ↦ let s = pow-suc 2 n in let m = member-past (suc n) (bits_of p n + 2 ^ n) k (omega arith) l in grind (arith, nat_tests)
]

set-members : (p : ℕ → Bool) (n k : ℕ) → member (bits_of p n) k ≡ (ltb k n && p k)
set-members p zero k = member-past zero 0 k (omega arith) (omega arith) ∙ grind (arith, nat_tests)
set-members p (suc n) k = set-step p n k (p n) refl (set-members p n k)

pub sets_hold : SetsHold
unfolding set_of
sets_hold = set-members
