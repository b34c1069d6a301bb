-- The set of the events that pass a test, and what a marking makes of each event.
use Rattle.std.specs.Prelude.{◌≡◌, ℕ, ◌^◌, Bool, cond, ◌&&◌, nat_lt}
use Rattle.events.specs.Members.{member}
use Rattle.events.specs.Sets.{EventSet}
use Rattle.events.specs.declared.marks.Marks.{Marks}
use Rattle.rules.specs.Answers.{accepted}
use Rattle.rules.specs.Rule.{Meaning}
use Rattle.protocol.specs.Costs.{total}

-- the numbers below n that pass the test
unfoldable pub set_of : (ℕ → Bool) → ℕ → EventSet
set_of p n = record { bits = total (λ e. cond (p e) (2 ^ e) 0) n }

-- the law of such sets: their members are those numbers
abbrev pub SetsHold : Type 0
SetsHold = (p : ℕ → Bool) (n k : ℕ) → member (set_of p n).bits k ≡ (nat_lt k n && p k)

-- e is enabled on the marking M
abbrev pub is_enabled : Meaning → (ℕ → Marks) → ℕ → Bool
is_enabled R M e = accepted (R.decides e M)

-- e is owed in the marking M
abbrev pub is_owed : (ℕ → Marks) → ℕ → Bool
is_owed M e = (M e).pending && (M e).included
