-- Numbers of one to three digits: a number is written in one way, and read back.
use Rattle.std.proofs.Common.{◌≡◌, ℕ, ◌+◌, ◌-◌, ◌*◌, ◌/◌, ◌%◌, ◌<◌, ◌≤◌, true, false, List, [], ◌∷◌, sym, refl, ap, ◌∙◌, subst, ⊎_elim, arith}
use Rattle.std.proofs.lemmas.Bool.{and_from, and_parts, both_ways, cases_lt, cond-false, cond-true, le-leb, le-ltb, leb-true, lt-ltb}
use Rattle.lexer.specs.Numbers.{digit_from, digits, shaped, valued}
use Rattle.lexer.specs.Parts.{Without}

module _ (n : ℕ) where
  one : n < 10 → digits n ≡ (48 + n) ∷ []
  unfolding digits
  one h = cond-true _ _ _ (lt-ltb n 10 h)

  two : 10 ≤ n → n < 100 → digits n ≡ (48 + n / 10) ∷ (48 + n % 10) ∷ []
  unfolding digits
  two h k = cond-false _ _ _ (le-ltb n 10 h) ∙ cond-true _ _ _ (lt-ltb n 100 k)

  three : 100 ≤ n → digits n ≡ (48 + n / 100) ∷ (48 + n / 10 % 10) ∷ (48 + n % 10) ∷ []
  unfolding digits
  three h = cond-false _ _ _ (le-ltb n 10 (omega arith)) ∙ cond-false _ _ _ (le-ltb n 100 h)

digit-is : (low b : ℕ) → low ≤ b → b ≤ 57 → digit_from low b ≡ true
digit-is low b h k = and_from _ _ (le-leb low b h) (le-leb b 57 k)

is_digit : (low b : ℕ) → digit_from low b ≡ true → (low ≤ b) × (b ≤ 57)
is_digit low b e = let p = and_parts _ _ e in (leb-true low b p.0, leb-true b 57 p.1)

pub digits-shaped : (n : ℕ) → n < 1000 → (shaped (digits n) ≡ true) × (valued (digits n) ≡ n) × Without 32 (digits n)
digits-shaped n lt =
    let P : List ℕ → Type 0 = λ l. (shaped l ≡ true) × (valued l ≡ n) × Without 32 l in
    ⊎_elim
    (λ h. subst P (sym (one n h)) (digit-is 48 (48 + n) (omega arith) (omega arith), omega arith, (λ e. omega arith, tt)))
    (λ h. ⊎_elim
    (λ k. subst P (sym (two n h k)) (and_from _ _ (digit-is 49 (48 + n / 10) (omega arith) (omega arith)) (digit-is 48 (48 + n % 10) (omega arith) (omega arith)), omega arith, (λ e. omega arith, (λ e. omega arith, tt))))
    (λ k. subst P (sym (three n k)) (and_from _ _ (and_from _ _ (digit-is 49 (48 + n / 100) (omega arith) (omega arith)) (digit-is 48 (48 + n / 10 % 10) (omega arith) (omega arith))) (digit-is 48 (48 + n % 10) (omega arith) (omega arith)), omega arith, (λ e. omega arith, (λ e. omega arith, (λ e. omega arith, tt)))))
    (cases_lt n 100))
    (cases_lt n 10)

last : (q b : ℕ) → 48 ≤ b → b ≤ 57 → b ≡ 48 + (q * 10 + (b - 48)) % 10
last q b h k = omega arith

pub shaped-digits : (w : List ℕ) → shaped w ≡ true → (valued w < 1000) × (w ≡ digits (valued w))
shaped-digits [] e = absurd (both_ways false refl e)
shaped-digits (a ∷ []) e =
    let p = is_digit 48 a e in
    let x : a ≡ 48 + (a - 48) = omega arith in
    (omega arith, (λ i. x i ∷ []) ∙ sym (one (a - 48) (omega arith)))
shaped-digits (a ∷ b ∷ []) e =
    let q = and_parts _ _ e in
    let p = is_digit 49 a q.0 in
    let r = is_digit 48 b q.1 in
    let v = (a - 48) * 10 + (b - 48) in
    let x : a ≡ 48 + v / 10 = omega arith in
    let y : b ≡ 48 + v % 10 = omega arith in
    (omega arith, (λ i. x i ∷ y i ∷ []) ∙ sym (two v (omega arith) (omega arith)))
shaped-digits (a ∷ b ∷ c ∷ []) e =
    let q = and_parts _ _ e in
    let q' = and_parts _ _ q.0 in
    let p = is_digit 49 a q'.0 in
    let r = is_digit 48 b q'.1 in
    let t = is_digit 48 c q.1 in
    let v = (a - 48) * 100 + (b - 48) * 10 + (c - 48) in
    let x : a ≡ 48 + v / 100 = omega arith in
    let ten : v / 10 ≡ (a - 48) * 10 + (b - 48) = omega arith in
    let y : b ≡ 48 + v / 10 % 10 = last (a - 48) b r.0 r.1 ∙ ap (λ m. 48 + m % 10) (sym ten) in
    let z : c ≡ 48 + v % 10 = omega arith in
    (omega arith, (λ i. x i ∷ y i ∷ z i ∷ []) ∙ sym (three v (omega arith)))
shaped-digits (a ∷ b ∷ c ∷ d ∷ ds) e = absurd (both_ways false refl e)
