-- Laws of the members of sets, over any width.
use Rattle.std.proofs.Common.{◌≡◌, ℕ, zero, suc, ◌+◌, ◌-◌, ◌*◌, ◌/◌, ◌%◌, ◌^◌, ◌<◌, ◌≤◌, true, false, cond, not, ◌&&◌, ◌||◌, eqb, ltb, sym, refl, ap, ◌∙◌, inl, inr, mod-eq_of_lt, pow-suc, div-one, arith, pow_pos, pow_mono, pow-add, shr-shr}
use native.Mathlib.Nat.{div-eq_of_lt}
use lib.Bits.{bit_and, bit_or, bit_xor, and_step, or_step, and_shr, or_shr, xor_shr, and_mask, xor_add_and}
use lib.Pow.{pow-lt, shl-shr, high, ones_split, ones_lt}
use lib.Count.{count_trailing_zeros, under, ones, ones_step}
use Rattle.std.proofs.lemmas.Nat.{one_shl}
use Rattle.std.proofs.lemmas.Bool.{cases_lt, cases_order, le-ltb, ne_eqb, eq-eqb}
use Rattle.std.proofs.lemmas.Bool.Decides.{nat_tests}
use Rattle.events.specs.Members.{member, named, LowestMember}

pub member-or : (a b k : ℕ) → member (bit_or a b) k ≡ (member a k || member b k)
unfolding member
member-or a b k = let e = or_shr a b k in let s = or_step (a / 2 ^ k) (b / 2 ^ k) in grind (arith, nat_tests)

pub member-and : (a b k : ℕ) → member (bit_and a b) k ≡ (member a k && member b k)
unfolding member
member-and a b k = let e = and_shr a b k in let s = and_step (a / 2 ^ k) (b / 2 ^ k) in grind (arith, nat_tests)

pub member-bit : (n k : ℕ) → eqb (bit_and (n / 2 ^ k) 1) 1 ≡ member n k
unfolding member
member-bit n k = ap (λ x. eqb x 1) (and_mask (n / 2 ^ k) 1)

pub member-past : (w n k : ℕ) → n < 2 ^ w → w ≤ k → member n k ≡ false
unfolding member
member-past w n k h l =
    let m : n < 2 ^ k = omega (arith, pow_mono l) in let z = div-eq_of_lt m in grind (arith, nat_tests)

pub member_below : (w n k : ℕ) → n < 2 ^ w → member n k ≡ true → k < w
member_below w n k h m =
    elim (cases_lt k w) [ inl l ↦ l | inr l ↦ let p = member-past w n k h l in grind (arith, nat_tests) ]

-- ---- one member, and all below a number

member-pow : (e k : ℕ) → member (2 ^ e) k ≡ eqb k e
unfolding member
member-pow e k =
    elim (cases_order k e) [
      | inl q ↦ let s = shl-shr 1 k in let p : 2 ^ e ≡ 2 ^ k = ap (λ n. 2 ^ n) (sym q) in grind (arith, nat_tests)
      | inr (inl l) ↦
          let j : ℕ = e - k - 1 in
          let p : 2 ^ e ≡ 2 ^ suc j * 2 ^ k = ap (λ n. 2 ^ n) (omega arith) ∙ pow-add 2 (suc j) k in
          let q : 2 ^ e / 2 ^ k ≡ 2 ^ suc j = ap (λ n. n / 2 ^ k) p ∙ shl-shr (2 ^ suc j) k in
          let s = pow-suc 2 j in grind (arith, nat_tests)
      | inr (inr l) ↦ member-past k (2 ^ e) k (pow-lt l) (omega arith) ∙ sym (ne_eqb k e (omega arith))
    ]

pub member-single : (w e k : ℕ) → e < w → member ((1 * 2 ^ e) % 2 ^ w) k ≡ named w e k
member-single w e k h = rw one_shl (let p = member-pow e k in grind (arith, nat_tests))

pub member-ones : (w k : ℕ) → member (2 ^ w - 1) k ≡ ltb k w
unfolding member
member-ones w k =
    elim (cases_lt k w) [
      | inl l ↦
          let j : ℕ = w - k - 1 in
          let s : 2 ^ w - 1 ≡ (2 ^ suc j - 1) * 2 ^ k + (2 ^ k - 1) = ap (λ n. 2 ^ n - 1) (omega arith) ∙ ones_split (suc j) k in
          let q : (2 ^ w - 1) / 2 ^ k ≡ 2 ^ suc j - 1 = ap (λ n. n / 2 ^ k) s ∙ high (2 ^ suc j - 1) k (ones_lt k) in
          let t = pow-suc 2 j in
          let p = pow_pos j in grind (arith, nat_tests)
      | inr l ↦ member-past w (2 ^ w - 1) k (ones_lt w) l ∙ sym (le-ltb k w l)
    ]

-- ---- what a complement takes away

complement : (w n : ℕ) → n < 2 ^ w → 2 ^ w - 1 - n ≡ bit_xor n (2 ^ w - 1)
complement w n h = omega (arith, and_mask n w, mod-eq_of_lt h, xor_add_and n (2 ^ w - 1))

member-not : (w n k : ℕ) → n < 2 ^ w → k < w → member (2 ^ w - 1 - n) k ≡ not (member n k)
unfolding member
member-not w n k h l =
    let full = member-ones w k in
    let e : (2 ^ w - 1 - n) / 2 ^ k ≡ bit_xor (n / 2 ^ k) ((2 ^ w - 1) / 2 ^ k) = ap (λ x. x / 2 ^ k) (complement w n h) ∙ xor_shr n (2 ^ w - 1) k in
    let s = xor_add_and (n / 2 ^ k) ((2 ^ w - 1) / 2 ^ k) in
    grind (arith, nat_tests)

pub member-minus : (w a b k : ℕ) → a < 2 ^ w → b < 2 ^ w → member (bit_and a (2 ^ w - 1 - b)) k ≡ (member a k && not (member b k))
member-minus w a b k h g =
    member-and a (2 ^ w - 1 - b) k
    ∙ elim (cases_lt k w) [
      | inl l ↦ ap (λ x. member a k && x) (member-not w b k g l)
      | inr l ↦ let p = member-past w a k h l in grind (arith, nat_tests)
    ]

-- ---- a set is determined by its members

member-half : (n k : ℕ) → member (n / 2) k ≡ member n (suc k)
unfolding member
member-half n k = ap (λ x. eqb (x % 2) 1) (shr-shr n 1 k ∙ ap (λ j. n / 2 ^ j) (omega arith))

member-first : (n : ℕ) → member n 0 ≡ eqb (n % 2) 1
unfolding member
member-first n = ap (λ x. eqb (x % 2) 1) (div-one n)

same-below : (most a b : ℕ) → a ≤ most → b ≤ most → ((k : ℕ) → member a k ≡ member b k) → a ≡ b
same-below zero a b h g e = omega arith
same-below (suc most) a b h g e =
    let half = same-below most (a / 2) (b / 2) (omega arith) (omega arith) (λ k. member-half a k ∙ e (suc k) ∙ sym (member-half b k)) in
    let low : eqb (a % 2) 1 ≡ eqb (b % 2) 1 = sym (member-first a) ∙ e 0 ∙ member-first b in
    grind (arith, nat_tests)

pub same-members : (a b : ℕ) → ((k : ℕ) → member a k ≡ member b k) → a ≡ b
same-members a b = same-below (a + b) a b (omega arith) (omega arith)

-- ---- the lowest member

lowest-under : (w n t d : ℕ) → n % 2 ≡ d → (d ≡ 0 → LowestMember w (n / 2) t) → LowestMember (suc w) n (under d t)
lowest-under w n t zero e f =
    let g = f refl in
    record {
      below = omega arith;
      here = sym (member-half n t) ∙ g.here;
      least = elim [
        | zero ↦ λ l. member-first n ∙ ne_eqb _ 1 (omega arith)
        | suc j ↦ λ l. sym (member-half n j) ∙ g.least j (omega arith)
      ];
    }
lowest-under w n t (suc d) e f =
    record {
      below = omega arith;
      here = member-first n ∙ eq-eqb _ 1 (omega arith);
      least = λ j l. absurd (omega arith);
    }

pub lowest-member : (w n : ℕ) → 0 < n → n < 2 ^ w → LowestMember w n (count_trailing_zeros w n)
unfolding count_trailing_zeros
lowest-member zero n p h = absurd (omega arith)
lowest-member (suc w) n p h =
    lowest-under w n (count_trailing_zeros w (n / 2)) (n % 2) refl
    (λ z. lowest-member w (n / 2) (omega arith) (omega (arith, pow-suc 2 w)))

-- ---- how many members are left without one

ones_half : (n : ℕ) → ones n ≡ cond (member n 0) 1 0 + ones (n / 2)
ones_half n = let p = member-first n in let s = ones_step n in grind (arith, nat_tests)

one_fewer : (e a b : ℕ) → member b e ≡ true → ((k : ℕ) → member a k ≡ cond (eqb k e) false (member b k)) → suc (ones a) ≡ ones b
one_fewer zero a b m f =
    let half = same-members (a / 2) (b / 2) (λ k. let p = f (suc k) in simp member-half (grind (arith, nat_tests))) in
    let same : ones (a / 2) ≡ ones (b / 2) = ap ones half in
    let low = f 0 in
    grind (arith, nat_tests, ones_half a, ones_half b)
one_fewer (suc e) a b m f =
    let half = one_fewer e (a / 2) (b / 2) (member-half b e ∙ m) (λ k. let p = f (suc k) in simp member-half (grind (arith, nat_tests))) in
    let low = f 0 in
    grind (arith, nat_tests, ones_half a, ones_half b)

-- what is left of the set a without its member e
module _ (w a left e : ℕ) (h : a < 2 ^ w) (members : (k : ℕ) → member left k ≡ cond (named w e k) false (member a k)) where
  pub without_fewer : member a e ≡ true → suc (ones left) ≡ ones a
  without_fewer m =
      let l = member_below w a e h m in
      one_fewer e left a m (λ k. let p = members k in grind (arith, nat_tests))

  pub without-less : left ≤ a → member a e ≡ true → left < a
  without-less l m =
      let f = without_fewer m in
      let same : left ≡ a → ones left ≡ ones a = ap ones in
      grind (arith, nat_tests)
