-- What a rule means, and its four laws.
use Rattle.std.specs.Prelude.{◌≡◌, ℕ, ◌<◌, Bool, true, false}
use Rattle.events.specs.declared.marks.Marks.{Marks}
use Rattle.rules.specs.declared.decision.Decision.{Decision}

-- Stations and events are numbered from 0. A marking gives each event its marks.
pub record Meaning : Type 0 where
  pub stations : ℕ
  pub events : ℕ
  -- the station of each event
  pub owner : ℕ → ℕ
  -- the marking at the start
  pub start : ℕ → Marks
  -- whether the lock set of the first event has the second
  pub locks : ℕ → ℕ → Bool
  -- the decision of an event on a marking
  pub decides : ℕ → (ℕ → Marks) → Decision
  -- the marking after doing an event
  pub does : ℕ → (ℕ → Marks) → ℕ → Marks

-- The laws speak of the events of the rule: of others a rule may say anything.
pub record Lawful (R : Meaning) : Type 0 where
  -- law 1: every owner is a station,
  pub owners_are_stations : (e : ℕ) → e < R.events → R.owner e < R.stations
  -- the lock set of an event has the event itself
  pub locks_itself : (e : ℕ) → e < R.events → R.locks e e ≡ true
  -- and only events of the rule
  pub locks_events : (e k : ℕ) → e < R.events → R.locks e k ≡ true → k < R.events
  -- law 2: markings that agree on the lock set get the same decision
  pub decides_by_locks : (e : ℕ) (M N : ℕ → Marks) → e < R.events → ((k : ℕ) → R.locks e k ≡ true → M k ≡ N k) → R.decides e M ≡ R.decides e N
  -- law 3: doing an event changes no event outside its lock set
  pub keeps_others : (e : ℕ) (M : ℕ → Marks) (k : ℕ) → e < R.events → R.locks e k ≡ false → R.does e M k ≡ M k
  -- law 4: what doing an event leaves of another depends only on the two and the marks that the other had
  pub acts_on_each : (e : ℕ) (M N : ℕ → Marks) (k : ℕ) → e < R.events → M k ≡ N k → R.does e M k ≡ R.does e N k
