-- The bytes of a spool: the pair a, b has 13 bytes from 13(8a+b), its count, its messages oldest first, and zeros.
use Rattle.std.specs.Prelude.{◌≡◌, ℕ, zero, suc, ◌+◌, ◌-◌, ◌*◌, ◌<◌, ◌≤◌, true, ◌⊎◌, List, [], ◌∷◌, ◌++◌, length, take, drop, replicate, slice_index, slice_index_or}
use Rattle.lines.specs.Lists.{Lists, inside, placed}
use Rattle.lines.specs.declared.message.Message.{Message}

-- ---- the layout of one pair

-- messages as bytes: kind, event, extra of each
abbrev pub bytes_of : List Message → List ℕ
bytes_of [] = []
bytes_of (m ∷ q) = m.kind ∷ m.event ∷ m.extra ∷ bytes_of q

-- the 13 bytes of a pair on which these messages wait
abbrev pub layout : List Message → List ℕ
layout q = length q ∷ (bytes_of q ++ replicate (12 - 3 * length q) 0)

-- ---- what bytes say

-- the message in the three bytes from i
abbrev pub message_at : List ℕ → ℕ → Message
message_at bytes i = record { kind = slice_index bytes i; event = slice_index bytes (i + 1); extra = slice_index bytes (i + 2) }

-- n messages from i
unfoldable pub messages : ℕ → List ℕ → ℕ → List Message
messages zero bytes i = []
messages (suc n) bytes i = message_at bytes i ∷ messages n bytes (i + 3)

-- the messages of the pair whose bytes start at i
abbrev pub slot_at : List ℕ → ℕ → List Message
slot_at bytes i = messages (slice_index bytes i) bytes (i + 1)

abbrev pub slots : List ℕ → ℕ → List Message
slots bytes p = slot_at bytes (13 * p)

-- what waits on a spool with these bytes
abbrev pub spooled : List ℕ → Lists
spooled bytes = placed (slots bytes)

-- ---- sound bytes

-- the 13 bytes of a pair from i: at most four messages, and zeros after them
pub record Slot (bytes : List ℕ) (i : ℕ) : Type 0 where
  pub few : slice_index_or bytes i 0 ≤ 4
  pub zeros : (k : ℕ) → 3 * slice_index bytes i < k → k < 13 → slice_index bytes (i + k) ≡ 0

-- memory that is laid out as a spool
pub record Laid (bytes : List ℕ) : Type 0 where
  pub room : 832 ≤ length bytes
  pub slots : (p : ℕ) → p < 64 → Slot bytes (13 * p)

-- the law of the layout: the bytes of each pair are exactly its list, zeros included
abbrev pub ExactLayout : Type 0
ExactLayout = (bytes : List ℕ) → Laid bytes → (a b : ℕ) → inside a b ≡ true → take 13 (drop (13 * (8 * a + b)) bytes) ≡ layout (spooled bytes a b)

-- ---- changes

-- all 832 bytes are zero
abbrev pub Cleared : List ℕ → Type 0
Cleared bytes = (k : ℕ) → k < 832 → slice_index bytes k ≡ 0

-- the bytes past the spool are as they were
abbrev pub SameBeyond : List ℕ → List ℕ → Type 0
SameBeyond old new = (k : ℕ) → 832 ≤ k → slice_index new k ≡ slice_index old k

-- outside the 13 bytes from i nothing changes
abbrev pub SameAround : ℕ → List ℕ → List ℕ → Type 0
SameAround i old new = (k : ℕ) → (k < i) ⊎ (i + 13 ≤ k) → slice_index new k ≡ slice_index old k
