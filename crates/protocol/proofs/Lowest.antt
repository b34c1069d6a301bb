-- What the lowest number that passes a test tells.
use Rattle.std.proofs.Common.{◌≡◌, ℕ, ◌<◌, Bool, true, is_some, Some, None, Option, refl, arith}
use Rattle.std.proofs.lemmas.Bool.Decides.{nat_tests}
use Rattle.rules.specs.Semantics.{lowest}
use Rattle.rules.specs.Lowest.{Tells, lowest-tells}
use Rattle.protocol.specs.Station.{is}

has-tells : (p : ℕ → Bool) (n : ℕ) (o : Option ℕ) → Tells p n o → (k : ℕ) → k < n → p k ≡ true → is_some o ≡ true
has-tells p n None h k q w = let z = h k q in grind arith
has-tells p n (Some u) h k q w = refl

-- where one passes, there is a lowest
pub lowest-has : (p : ℕ → Bool) (n k : ℕ) → k < n → p k ≡ true → is_some (lowest p n) ≡ true
lowest-has p n k = has-tells p n (lowest p n) (lowest-tells p n) k

by_tells : (p : ℕ → Bool) (n : ℕ) (o : Option ℕ) → Tells p n o → (k : ℕ) → is o k ≡ true → (p k ≡ true) × (k < n)
by_tells p n None h k q = grind arith
by_tells p n (Some u) h k q = let z = h.0 in let y = h.1 in (grind (arith, nat_tests), grind (arith, nat_tests))

-- the lowest passes
pub lowest_by : (p : ℕ → Bool) (n k : ℕ) → is (lowest p n) k ≡ true → (p k ≡ true) × (k < n)
lowest_by p n k = by_tells p n (lowest p n) (lowest-tells p n) k

get_tells : (p : ℕ → Bool) (n : ℕ) (o : Option ℕ) → Tells p n o → is_some o ≡ true → (k : ℕ) × (p k ≡ true)
get_tells p n None h q = grind arith
get_tells p n (Some u) h q = (u, h.0)

pub lowest-get : (p : ℕ → Bool) (n : ℕ) → is_some (lowest p n) ≡ true → (k : ℕ) × (p k ≡ true)
lowest-get p n = get_tells p n (lowest p n) (lowest-tells p n)
