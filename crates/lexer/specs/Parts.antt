-- The parts of a text and their places.
use Rattle.std.specs.Prelude.{◌≡◌, ℕ, ◌^◌, ◌<◌, List, ◌++◌, length, take, drop, ◌≢◌, slice_index}
use Rattle.std.specs.List.{AllByRecursion}
use Rattle.lexer.specs.declared.part.Part.{Part}

-- the bytes are the part of the text at that place
abbrev pub StandAt : List ℕ → ℕ → List ℕ → Type 0
StandAt text at bytes = take (length bytes) (drop at text) ≡ bytes

-- in each text in which the whole part stands, the bytes stand at their place
abbrev pub StandIn : Part → ℕ → List ℕ → Type 0
StandIn whole at bytes = (text : List ℕ) → length text < 2 ^ 64 → StandAt text whole.at whole.bytes.now → StandAt text at bytes

-- none of the bytes is s
abbrev pub Without : ℕ → List ℕ → Type 0
Without s = AllByRecursion (λ b. b ≢ s)

-- nothing is left, or it begins with s
abbrev pub StopAt : ℕ → List ℕ → Type 0
StopAt s tail = 0 < length tail → slice_index tail 0 ≡ s

-- the bytes before the first s, and what is left
pub record Cut (s : ℕ) (bytes front tail : List ℕ) : Type 0 where
  pub is : bytes ≡ front ++ tail
  pub free : Without s front
  pub stop : StopAt s tail
