-- The sets of events and of stations, and the laws of sets:
-- a set is determined by its members, and these are below the width of its word.
-- The type of a set does not say that its bits fit the word, so the second law asks it.
use Rattle.std.specs.Prelude.{◌≡◌, ℕ, ◌^◌, ◌<◌, true}
use Rattle.events.specs.Members.{member}
use Rattle.events.specs.declared.set.Set.{Set}

-- a machine's word is a number here, so both kinds of set are one type
abbrev pub EventSet : Type 0
EventSet = Set ℕ

abbrev pub StationSet : Type 0
StationSet = Set ℕ

-- at words that write these numbers
abbrev pub SetsByMembers : {W : Type 0} → (W → ℕ) → Type 0
SetsByMembers {W} number = (a b : Set W) → ((k : ℕ) → member (number a.bits) k ≡ member (number b.bits) k) → a ≡ b

abbrev pub MembersBelow : {W : Type 0} → (W → ℕ) → ℕ → Type 0
MembersBelow {W} number width = (a : Set W) (k : ℕ) → number a.bits < 2 ^ width → member (number a.bits) k ≡ true → k < width

abbrev pub EventSetsByMembers : Type 0
EventSetsByMembers = (a b : EventSet) → ((k : ℕ) → member a.bits k ≡ member b.bits k) → a ≡ b

abbrev pub EventsBelow : Type 0
EventsBelow = (a : EventSet) (k : ℕ) → a.bits < 2 ^ 64 → member a.bits k ≡ true → k < 64

abbrev pub StationSetsByMembers : Type 0
StationSetsByMembers = (a b : StationSet) → ((k : ℕ) → member a.bits k ≡ member b.bits k) → a ≡ b

abbrev pub StationsBelow : Type 0
StationsBelow = (a : StationSet) (k : ℕ) → a.bits < 2 ^ 8 → member a.bits k ≡ true → k < 8
