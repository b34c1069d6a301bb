-- The answers to requests: their numbers and the events that they name.
use Rattle.std.specs.Prelude.{ℕ, Bool, Ok, Err, Result, ◌==◌}
use Rattle.rules.specs.declared.decision.Decision.{Decision}
use Rattle.rules.specs.declared.decision.Decision.TheVariants.{Accepted, Excluded, Unmet, Held}
use Rattle.rules.specs.declared.decision.UnknownEvent.{UnknownEvent}

-- the number of what is answered to a request of the event e, and the event that it names
abbrev pub reply : Result Decision UnknownEvent → ℕ → ℕ × ℕ
reply (Ok Accepted) e = (0, e)
reply (Ok (Excluded k)) e = (21, k)
reply (Ok (Unmet k)) e = (22, k)
reply (Ok (Held k)) e = (23, k)
reply (Err u) e = (9, e)

abbrev pub answer : Decision → ℕ → ℕ × ℕ
answer d e = reply (Ok d) e

-- the number 0 alone accepts
abbrev pub accepted : Decision → Bool
accepted d = (answer d 0).0 == 0
