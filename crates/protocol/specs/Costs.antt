-- How many messages the requests cost.
use Rattle.std.specs.Prelude.{ℕ, zero, suc, ◌+◌, ◌*◌, Bool, true, false, List, [], ◌∷◌}
use Rattle.rules.specs.Rule.{Meaning}
use Rattle.protocol.specs.Station.{concerned}
use Rattle.protocol.specs.declared.answer.Answer.{Answer}

abbrev pub total : (ℕ → ℕ) → ℕ → ℕ
total p zero = 0
total p (suc n) = total p n + p n

abbrev pub one : Bool → ℕ
one true = 1
one false = 0

-- how many numbers below n pass the test
abbrev pub count : (ℕ → Bool) → ℕ → ℕ
count p n = total (λ k. one (p k)) n

-- a request of e costs two messages for each event of its lock set, an ask and a grant, and a settle for each station that owns one of them
abbrev pub cost : Meaning → ℕ → ℕ
cost R e = 2 * count (R.locks e) R.events + count (concerned R e) R.stations

-- what the answered requests cost
abbrev pub costs : Meaning → List Answer → ℕ
costs R [] = 0
costs R (a ∷ more) = cost R a.event + costs R more
