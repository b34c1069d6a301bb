-- The members of a set that a number stands for by its digits in base two.
use Rattle.std.specs.Prelude.{◌≡◌, ℕ, ◌/◌, ◌%◌, ◌^◌, ◌<◌, Bool, true, false, cond, ◌&&◌, Option, MatchOption, ◌==◌, nat_lt}

-- whether k is in the set n
unfoldable pub member : ℕ → ℕ → Bool
member n k = n / 2 ^ k % 2 == 1

-- whether k is the number e and a word of that width has a place for it
abbrev pub named : ℕ → ℕ → ℕ → Bool
named width e k = k == e && nat_lt e width

abbrev pub NoMember : ℕ → Type 0
NoMember n = (k : ℕ) → member n k ≡ false

-- e is the lowest member of n, and below the width
pub record LowestMember (width n e : ℕ) : Type 0 where
  pub below : e < width
  pub here : member n e ≡ true
  pub least : (k : ℕ) → k < e → member n k ≡ false

-- what is taken from the set n, which leaves the set m: the lowest member, or nothing if there is none
abbrev pub TakesLowest : ℕ → ℕ → Option ℕ → ℕ → Type 0
TakesLowest width n r m =
    MatchOption r (NoMember n × (m ≡ n))
    (λ e. LowestMember width n e × ((k : ℕ) → member m k ≡ cond (k == e) false (member n k)))
