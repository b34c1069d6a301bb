-- Numbers of one to three digits.
use Rattle.std.specs.Prelude.{ℕ, ◌+◌, ◌-◌, ◌*◌, ◌/◌, ◌%◌, Bool, false, cond, ◌&&◌, List, [], ◌∷◌, nat_le, nat_lt}

-- the decimal digits of a number below a thousand, without leading zero
unfoldable pub digits : ℕ → List ℕ
digits n = cond (nat_lt n 10) ((48 + n) ∷ []) (cond (nat_lt n 100) ((48 + n / 10) ∷ (48 + n % 10) ∷ []) ((48 + n / 100) ∷ (48 + n / 10 % 10) ∷ (48 + n % 10) ∷ []))

-- a digit that is at least low
abbrev pub digit_from : ℕ → ℕ → Bool
digit_from low b = nat_le low b && nat_le b 57

-- one to three digits without leading zero
abbrev pub shaped : List ℕ → Bool
shaped [] = false
shaped (a ∷ []) = digit_from 48 a
shaped (a ∷ b ∷ []) = digit_from 49 a && digit_from 48 b
shaped (a ∷ b ∷ c ∷ []) = digit_from 49 a && digit_from 48 b && digit_from 48 c
shaped (a ∷ b ∷ c ∷ d ∷ ds) = false

-- what they come to
abbrev pub valued : List ℕ → ℕ
valued [] = 0
valued (a ∷ []) = a - 48
valued (a ∷ b ∷ []) = (a - 48) * 10 + (b - 48)
valued (a ∷ b ∷ c ∷ []) = (a - 48) * 100 + (b - 48) * 10 + (c - 48)
valued (a ∷ b ∷ c ∷ d ∷ ds) = 0
